use Rattle.std.proofs.Common.{◌+◌, ◌*◌, length, ap, ◌∙◌, arith}
use Rattle.std.specs.List.{flat_map}
use Rattle.image.specs.Layout.{quay_bytes, sailing_bytes}
use Rattle.binder.specs.Binding.{written}
use Rattle.binder.proofs.Puts.{book_written}
use Rattle.binder.proofs.bind.write_book.Goals as goal

pub returns : goal.returns
returns c =
    let quays = c.args.quays.now in
    let xs = c.args.sailings.now in
    c.put_rows-2.ensures
    ∙ ap (written (16 * (1 + length quays)) (flat_map sailing_bytes xs)) (c.put_rows.ensures ∙ ap (written 16 (flat_map quay_bytes quays)) c.put_heading.ensures)
    ∙ book_written quays xs c.args.image.now (omega (arith, c.requires))
