use Rattle.std.proofs.Common.{◌+◌, ◌*◌, get_or, refl, ap, ◌∙◌, arith}
use Rattle.std.specs.List.{flat_map}
use Rattle.std.proofs.lemmas.List.{take_all}
use Rattle.image.specs.Layout.{two}
use Rattle.image.proofs.Laid.{all_sized}
use Rattle.binder.specs.Binding.{written}
use Rattle.binder.proofs.Puts.{written_none, row_written, two_bytes}
use Rattle.binder.proofs.records.put_numbers.Goals as goal

pub loop-i-init : goal.loop-i-init
loop-i-init c = written_none c.args.at c.args.image.now

pub loop-i-preserved : goal.loop-i-preserved
loop-i-preserved c =
    let xs = c.args.numbers.now in
    let i = c.loop-i.i in
    let n = get_or xs i 0 in
    let f = c.type_inv.numbers i in
    c.put.ensures
    ∙ ap (λ r. written (c.args.at + 2 * i) r c.loop-i.image) (c.to_le_bytes.ensures ∙ two_bytes n (omega (arith, f)))
    ∙ ap (written (c.args.at + 2 * i) (two n)) c.loop-i.invariant
    ∙ row_written two 2 xs i c.args.at 0 c.args.image.now (all_sized two 2 (λ x. refl) xs) c.loop-i-test.true (omega (arith, c.requires))

pub returns : goal.returns
returns c = c.loop-i.invariant ∙ ap (λ l. written c.args.at (flat_map two l) c.args.image.now) (take_all c.loop-i.i c.args.numbers.now c.loop-i-test.false)
