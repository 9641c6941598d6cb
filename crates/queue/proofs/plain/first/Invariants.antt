use Rattle.queue.specs.Firsts.{BestBelow}
use Rattle.queue.proofs.plain.first.Given as goal

abbrev pub invariant-loop-item : goal.invariant-loop-item
invariant-loop-item l = BestBelow l.keys l.item l.best
