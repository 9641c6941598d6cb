use Rattle.std.proofs.Common.{◌+◌, Err, sym, ap, ◌∙◌, arith}
use Rattle.std.proofs.lemmas.Result.{err_from_is_err_and}
use Rattle.image.specs.Records.{quays_in}
use Rattle.image.specs.Meanings.{below, clock_sailings}
use Rattle.image.proofs.Tables.{span_told, span_untold}
use Rattle.books.proofs.Rows.{row_in, row_out}
use Rattle.books.proofs.clock_face_book.ClockFaceBook.span.Goals as goal

pub returns-in_err-row : goal.returns-in_err-row
returns-in_err-row c =
    let p = err_from_is_err_and c.from_residual.result c.from_residual.ensures.1 in
    let bs = c.args.self.now.bytes.now in
    let r = row_out c.args.quay (quays_in c.image.result.bytes.now) _ c.in_err-row.ensures in
    rw (p.1, p.2) (ap Err r.1 ∙ sym (span_untold bs (clock_sailings bs) c.args.quay (omega (arith, r.0, ap quays_in c.image.ensures))))

pub returns : goal.returns
returns c =
    let bs = c.args.self.now.bytes.now in
    let r = row_in c.args.quay (quays_in c.image.result.bytes.now) _ c.in_ok-row.ensures in
    let t = span_told bs (clock_sailings bs) c.args.quay (omega (arith, r.0, ap quays_in c.image.ensures)) in
    let start = c.leaving_below.ensures ∙ ap (λ k. below k (clock_sailings bs)) r.1 in
    let end = c.leaving_below-2.ensures ∙ ap (λ k. below (k + 1) (clock_sailings bs)) r.1 in
    rw (start, end) (sym t)
