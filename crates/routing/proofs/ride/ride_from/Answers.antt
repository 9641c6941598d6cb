use Rattle.std.proofs.Common.{arith}
use Rattle.timetable.proofs.Laws.{length_cycle, next_soon}
use Rattle.routing.specs.Origins.{due_of}
use Rattle.routing.proofs.Relaxed.{due-latest}
use Rattle.routing.proofs.ride.ride_from.Goals as goal

pub overflow_add-arrives : goal.overflow_add-arrives
overflow_add-arrives c =
    omega (arith, c.leaves_from-leaves.ensures, c.minutes_of.ensures, next_soon c.args.s c.requires.dep (due_of c.args.origin c.args.s), (length_cycle c.args.s).short, due-latest c.args.origin c.args.s, c.requires.due)
