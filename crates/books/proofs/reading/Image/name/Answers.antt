use Rattle.std.proofs.Common.{◌+◌, ◌*◌, take, drop, Ok, Err, sym, ap, ◌∙◌}
use Rattle.std.proofs.lemmas.Result.{err_from_is_err_and}
use Rattle.image.specs.Records.{quays_in}
use Rattle.image.specs.Names.{trimmed}
use Rattle.image.proofs.Trims.{name_told, name_untold}
use Rattle.books.proofs.Rows.{row_in, row_out}
use Rattle.books.proofs.reading.Image.name.Goals as goal

pub returns-in_err-row : goal.returns-in_err-row
returns-in_err-row g c =
    let p = err_from_is_err_and c.from_residual.result c.from_residual.ensures.1 in
    let bs = c.args.self.now.bytes.now in
    let r = row_out c.args.quay (quays_in bs) _ c.in_err-row.ensures in
    rw (p.1, p.2) (ap Err r.1 ∙ sym (name_untold bs c.args.quay r.0))

pub returns : goal.returns
returns g c =
    let bs = c.args.self.now.bytes.now in
    let r = row_in c.args.quay (quays_in bs) _ c.in_ok-row.ensures in
    ap Ok (c.name_at.ensures ∙ ap (λ k. trimmed (take 10 (drop (16 * (1 + k) + 6) bs))) r.1) ∙ sym (name_told bs c.args.quay r.0)
