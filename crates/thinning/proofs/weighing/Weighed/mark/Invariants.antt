use Rattle.thinning.specs.Dominance.{mark_of}
use Rattle.thinning.proofs.Marking.{Marking}
use Rattle.thinning.proofs.weighing.Weighed.mark.Given as goal

abbrev pub invariant-loop-place : goal.invariant-loop-place
invariant-loop-place g l = Marking (mark_of (g.B.Book.meaning l.self.book.now)) l.marks.at l.place l.count
