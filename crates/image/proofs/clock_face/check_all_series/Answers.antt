use Rattle.std.proofs.Common.{sym, arith}
use Rattle.std.proofs.lemmas.Result.{err_from_is_err_and}
use Rattle.image.specs.Checks.{series}
use Rattle.image.proofs.Walks.{up_to_more, up_to-fault, numbered, unnumbered}
use Rattle.image.proofs.Good.{series_room, places_more}
use Rattle.image.proofs.clock_face.check_all_series.Goals as goal

pub returns-in_err-places : goal.returns-in_err-places
returns-in_err-places c =
    let p = err_from_is_err_and c.from_residual.result c.from_residual.ensures.1 in
    let bs = c.args.bytes.now in
    rw (p.1, p.2) (sym (up_to-fault (series bs c.args.quays) c.loop-row.row c.args.entries _ c.loop-row-test.true c.loop-row.invariant.0 (unnumbered (series bs c.args.quays c.loop-row.row) _ _ (sym c.in_err-places.ensures))))

pub loop-row-preserved : goal.loop-row-preserved
loop-row-preserved c =
    let bs = c.args.bytes.now in
    let quays = c.args.quays in
    let row = c.loop-row.row in
    let n = numbered (series bs quays row) _ _ (sym c.in_ok-places.ensures) in
    let room = series_room bs quays row n.0 in (
      up_to_more (series bs quays) row c.loop-row.invariant.0 n.0,
      places_more bs quays row _ _ c.loop-row.invariant.1 n.1,
      omega (arith, room, c.loop-row.invariant.1, n.1),
    )
