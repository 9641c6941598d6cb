use Rattle.std.proofs.Common.{refl}
use Rattle.timetable.specs.Classes.{class_minutes}
use Rattle.timetable.specs.Times.{length_of, next, continues}
use Rattle.cases.proofs.Rows.{worked}
use Rattle.cases.proofs.table.worked_cases.Goals as goal

-- the test is computed, over the figures that stand in the code
pub returns : goal.returns
unfolding next length_of continues class_minutes
returns c = worked _ refl refl
