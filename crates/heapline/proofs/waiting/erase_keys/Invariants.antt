use Rattle.std.proofs.Common.{drop}
use Rattle.heapline.specs.Tallies.{Tallies}
use Rattle.heapline.proofs.waiting.erase_keys.Given as goal

abbrev pub invariant-loop-w : goal.invariant-loop-w
invariant-loop-w l = Tallies (drop l.w-index l.waiting) l.keys
