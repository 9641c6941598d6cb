use Rattle.std.proofs.Common.{arith}
use Rattle.routing.proofs.Turned.{none_first, found, first_inside, settle_first_lem}
use Rattle.routing.proofs.explore.settle_first.Goals as goal

pub returns-in_err-place : goal.returns-in_err-place
returns-in_err-place g c = rw c.from_residual.ensures (none_first c.args.labels.now (g.L.Line.keys c.args.line.now) c.requires c.in_err-place.ensures.0)

pub bounds : goal.bounds
bounds g c =
    omega (arith, first_inside c.args.labels.now (g.L.Line.keys c.args.line.now) c.in_ok-place.place _ c.requires c.in_ok-place.ensures.0)

pub unreachable-requires : goal.unreachable-requires
unreachable-requires g c =
    let (ride, waits, at) = found c.args.labels.now (g.L.Line.keys c.args.line.now) c.in_ok-place.place _ c.requires c.in_ok-place.ensures.0 in
    c.in_default.not-Waiting ride waits

pub returns : goal.returns
returns g c =
    settle_first_lem c.args.labels.now (g.L.Line.keys c.args.line.now) c.in_ok-place.place _ c.requires c.in_ok-place.ensures.0 c.in-Waiting.ride c.in-Waiting.is _ c.in_ok-place.ensures.1
