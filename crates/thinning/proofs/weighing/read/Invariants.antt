use Rattle.std.proofs.Common.{◌≡◌, take}
use Rattle.thinning.proofs.weighing.read.Given as goal

abbrev pub invariant-loop-place : goal.invariant-loop-place
invariant-loop-place g l = l.places.items ≡ take l.place (g.B.Book.meaning l.book).places
