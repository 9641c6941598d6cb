use Rattle.std.proofs.Common.{arith}
use Rattle.timetable.specs.Times.{next}
use Rattle.console.proofs.earliest.departing.Goals as goal

-- a departure is within a day of the minute, or at most that of the sailing
pub overflow_cast-result : goal.overflow_cast-result
unfolding next
overflow_cast-result c = omega (arith, c.next_departure.ensures.value)
