use Rattle.std.proofs.Common.{◌+◌, ◌-◌, ◌*◌, arith, pow-add}
use Rattle.std.proofs.lemmas.List.Sums.{fold_more}
use Rattle.numerals.proofs.digits.number_in.Goals as goal

pub loop-byte-preserved : goal.loop-byte-preserved
loop-byte-preserved c =
    grind (arith, fold_more (λ v b. v * 10 + (b - 48)) 0 c.args.digits.now c.loop-byte.byte-index 0, pow-add 10 c.loop-byte.byte-index 1, c.type_inv.digits c.loop-byte.byte-index)
