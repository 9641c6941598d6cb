use Rattle.std.proofs.Common.{◌+◌, ◌*◌, get_or, ap, ◌∙◌, arith}
use Rattle.std.specs.List.{flat_map}
use Rattle.std.proofs.lemmas.List.{take_all}
use Rattle.image.proofs.Laid.{all_sized}
use Rattle.binder.specs.Binding.{written}
use Rattle.binder.proofs.Puts.{written_none, row_written}
use Rattle.binder.proofs.records.put_rows.Goals as goal

pub loop-i-init : goal.loop-i-init
loop-i-init g c = written_none c.args.start c.args.image.now

pub loop-i-preserved : goal.loop-i-preserved
loop-i-preserved g c =
    let xs = c.args.rows.now in
    let i = c.loop-i.i in
    let x = c.index-rows-i.result in
    c.put.ensures
    ∙ ap (λ y. written (c.args.start + 16 * i) (g.R.Row.bytes y) c.loop-i.image) c.index-rows-i.is
    ∙ ap (written (c.args.start + 16 * i) (g.R.Row.bytes (get_or xs i x))) c.loop-i.invariant
    ∙ row_written g.R.Row.bytes 16 xs i c.args.start x c.args.image.now (all_sized g.R.Row.bytes 16 g.met.R.Row.sized xs) c.loop-i-test.true (omega (arith, c.requires))

pub returns : goal.returns
returns g c = c.loop-i.invariant ∙ ap (λ l. written c.args.start (flat_map g.R.Row.bytes l) c.args.image.now) (take_all c.loop-i.i c.args.rows.now c.loop-i-test.false)
