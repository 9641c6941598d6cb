use Rattle.std.proofs.Common.{length, sym}
use Rattle.std.proofs.lemmas.Result.{err_from_is_err_and}
use Rattle.image.proofs.Walks.{up_to_more, up_to-fault}
use Rattle.binder.specs.Content.{quay_row}
use Rattle.binder.proofs.content.check_quays.Goals as goal

pub returns-in_err-check_quay : goal.returns-in_err-check_quay
returns-in_err-check_quay c =
    let p = err_from_is_err_and c.from_residual.result c.from_residual.ensures.1 in
    rw (p.1, p.2) (sym (up_to-fault (quay_row c.args.quays.now) c.loop-row.row (length c.args.quays.now) _ c.loop-row-test.true c.loop-row.invariant (sym c.in_err-check_quay.ensures)))

pub loop-row-preserved : goal.loop-row-preserved
loop-row-preserved c = up_to_more (quay_row c.args.quays.now) c.loop-row.row c.loop-row.invariant (sym c.in_ok-check_quay.ensures)
