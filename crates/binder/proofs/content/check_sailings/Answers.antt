use Rattle.std.proofs.Common.{length, get_or, sym, ap, ◌∙◌}
use Rattle.std.proofs.lemmas.Result.{err_from_is_err_and}
use Rattle.image.specs.Records.{entry_at}
use Rattle.image.proofs.Walks.{up_to_more, up_to-fault}
use Rattle.image.specs.Content.{sailing_of}
use Rattle.binder.specs.Content.{sailing_row, no_sailing}
use Rattle.binder.proofs.Checked.{before_more}
use Rattle.binder.proofs.content.check_sailings.Goals as goal

pub returns-in_err-check_sailing : goal.returns-in_err-check_sailing
returns-in_err-check_sailing c =
    let p = err_from_is_err_and c.from_residual.result c.from_residual.ensures.1 in
    let xs = c.args.sailings.now in
    let row = c.loop-row.row in
    let e = ap (λ k. sailing_of (get_or xs row no_sailing) k c.args.quays row (entry_at 16 c.args.quays row)) c.loop-row.invariant.1 in
    rw (p.1, p.2) (sym (up_to-fault (sailing_row c.args.quays xs) row (length xs) _ c.loop-row-test.true c.loop-row.invariant.0 (sym e ∙ sym c.in_err-check_sailing.ensures)))

pub loop-row-preserved : goal.loop-row-preserved
loop-row-preserved c =
    let xs = c.args.sailings.now in
    let row = c.loop-row.row in
    let e = ap (λ k. sailing_of (get_or xs row no_sailing) k c.args.quays row (entry_at 16 c.args.quays row)) c.loop-row.invariant.1 in
    (up_to_more (sailing_row c.args.quays xs) row c.loop-row.invariant.0 (sym e ∙ sym c.in_ok-check_sailing.ensures), before_more xs row)
