use Rattle.std.proofs.Common.{◌+◌, ◌<◌, length, drop, set, None, sym, subst}
use Rattle.heapline.specs.Tallies.{Tallies}
use Rattle.heapline.proofs.Kept.{forgets_inside, forgets_more, forgets_all}
use Rattle.heapline.proofs.waiting.erase_keys.Goals as goal

pub bounds-keys-from : goal.bounds-keys-from
bounds-keys-from c =
    subst (λ k. k < length c.loop-w.keys) (sym c.from.ensures) (forgets_inside c.args.waiting.now c.loop-w.keys c.loop-w.w-index _ c.loop-w-test.true c.loop-w.invariant)

pub loop-w-preserved : goal.loop-w-preserved
loop-w-preserved c =
    subst (λ k. Tallies (drop (c.loop-w.w-index + 1) c.args.waiting.now) (set c.loop-w.keys k None)) (sym c.from.ensures)
    (forgets_more c.args.waiting.now c.loop-w.keys c.loop-w.w-index _ c.loop-w-test.true c.loop-w.invariant)

pub returns : goal.returns
returns c = forgets_all c.args.waiting.now c.loop-w.keys c.loop-w.w-index c.loop-w-test.false c.loop-w.invariant
