use Rattle.std.proofs.Common.{ℕ, ◌+◌, ◌-◌, ◌/◌, arith}
use Rattle.image.proofs.Prints.{from_rises, below_is}
use Rattle.books.proofs.printed.Printed.leaving_below.Goals as goal

pub loop-lo-preserved-then-from_at-quay : goal.loop-lo-preserved-then-from_at-quay
loop-lo-preserved-then-from_at-quay c =
    let i = c.loop-lo.invariant in
    let rises = from_rises c.args.self.now.bytes.now c.args.self.now.sound in
    let e = c.from_at.ensures in
    let mid : ℕ = c.loop-lo.lo + (c.loop-lo.hi - c.loop-lo.lo) / 2 in
    (omega arith, i.1, λ k l. omega (arith, e, rises k mid (omega arith) (omega (arith, i.1, c.loop-lo-test.true))), i.3)

pub loop-lo-preserved : goal.loop-lo-preserved
loop-lo-preserved c =
    let i = c.loop-lo.invariant in
    let rises = from_rises c.args.self.now.bytes.now c.args.self.now.sound in
    let e = c.from_at.ensures in
    (omega arith, omega (arith, i.1), i.2, λ k a b. omega (arith, e, rises _ k a b))

pub returns : goal.returns
returns c =
    let i = c.loop-lo.invariant in
    below_is c.args.self.now.bytes.now c.args.self.now.sound c.args.quay c.loop-lo.lo (omega (arith, i.0, i.1)) i.2 (λ k a b. i.3 k (omega (arith, c.loop-lo-test.false, a)) b)
