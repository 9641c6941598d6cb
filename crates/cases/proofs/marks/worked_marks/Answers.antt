use Rattle.std.proofs.Common.{refl}
use Rattle.timetable.specs.Times.{length_of, next, continues}
use Rattle.tables.specs.Lists.{many}
use Rattle.cases.proofs.Marked.{marks_right}
use Rattle.cases.proofs.marks.worked_marks.Goals as goal

-- the tests are computed, over the marks that stand in the code
pub returns : goal.returns
unfolding next length_of continues many
returns c = marks_right _ refl refl refl
