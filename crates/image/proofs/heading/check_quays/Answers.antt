use Rattle.std.proofs.Common.{sym}
use Rattle.std.proofs.lemmas.Result.{err_from_is_err_and}
use Rattle.image.specs.Checks.{quay}
use Rattle.image.proofs.Walks.{up_to_more, up_to-fault}
use Rattle.image.proofs.heading.check_quays.Goals as goal

pub returns-in_err-check_quay_at : goal.returns-in_err-check_quay_at
returns-in_err-check_quay_at c =
    let p = err_from_is_err_and c.from_residual.result c.from_residual.ensures.1 in
    rw (p.1, p.2) (sym (up_to-fault (quay c.args.bytes.now) c.loop-row.row c.args.quays _ c.loop-row-test.true c.loop-row.invariant (sym c.in_err-check_quay_at.ensures)))

pub loop-row-preserved : goal.loop-row-preserved
loop-row-preserved c = up_to_more (quay c.args.bytes.now) c.loop-row.row c.loop-row.invariant (sym c.in_ok-check_quay_at.ensures)
