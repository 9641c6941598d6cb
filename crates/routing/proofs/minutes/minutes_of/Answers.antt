use Rattle.std.proofs.Common.{⊎_elim, arith}
use Rattle.std.proofs.lemmas.Bool.{cases_eq}
use Rattle.timetable.specs.Times.{length_of}
use Rattle.timetable.proofs.Laws.{length_cycle, cycle_one}
use Rattle.routing.proofs.minutes.minutes_of.Goals as goal

pub returns : goal.returns
returns c = cycle_one c.args.s _ (length_of c.args.s) (⊎_elim
    (λ z. let h = c.before-2.ensures.other z in record { short = omega (arith, h, c.requires); arrives = omega (arith, h, c.requires) })
    (λ nz. let one = c.before-2.ensures.one in let h = c.before-2.ensures.yes (omega arith) in record { short = omega (arith, h, c.requires); arrives = omega (arith, h, c.requires) })
    (cases_eq c.before-2.result 0)) (length_cycle c.args.s)
