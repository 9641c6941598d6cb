use Rattle.std.proofs.Common.{◌≡◌, length, subst, arith}
use Rattle.queue.specs.Firsts.{BestBelow}
use Rattle.queue.proofs.Finds.{first_of}
use Rattle.queue.proofs.plain.first.Goals as goal

pub returns : goal.returns
returns c =
    let ks = c.args.keys.now in
    let n : c.loop-item.item ≡ length ks = omega arith in
    first_of ks c.loop-item.best (subst (λ m. BestBelow ks m c.loop-item.best) n c.loop-item.invariant)
