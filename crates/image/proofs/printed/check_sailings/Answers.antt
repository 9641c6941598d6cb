use Rattle.std.proofs.Common.{sym}
use Rattle.std.proofs.lemmas.Result.{err_from_is_err_and}
use Rattle.image.specs.Checks.{sailing}
use Rattle.image.proofs.Walks.{up_to_more, up_to-fault}
use Rattle.image.proofs.printed.check_sailings.Goals as goal

pub returns-in_err-check_sailing_at : goal.returns-in_err-check_sailing_at
returns-in_err-check_sailing_at c =
    let p = err_from_is_err_and c.from_residual.result c.from_residual.ensures.1 in
    rw (p.1, p.2) (sym (up_to-fault (sailing c.args.bytes.now c.args.quays) c.loop-row.row c.args.entries _ c.loop-row-test.true c.loop-row.invariant (sym c.in_err-check_sailing_at.ensures)))

pub loop-row-preserved : goal.loop-row-preserved
loop-row-preserved c = up_to_more (sailing c.args.bytes.now c.args.quays) c.loop-row.row c.loop-row.invariant (sym c.in_ok-check_sailing_at.ensures)
