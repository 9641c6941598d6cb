use Rattle.std.proofs.Common.{arith}
use Rattle.routing.specs.declared.ride.Origin.TheVariants.{Via}
use Rattle.routing.proofs.Opens.{opened_better}
use Rattle.routing.proofs.Turned.{span_order, span_end, whole, origin_quay}
use Rattle.routing.proofs.explore.go_on.Goals as goal

pub follow_span-requires : goal.follow_span-requires
follow_span-requires g c =
    let T = g.B.Book.meaning c.args.book.now in
    let v = c.args.ride.sailing.to in
    let (is, covers) = c.requires.opened v c.in-Some.span c.in-Some.is in
    record {
      ready = c.requires.ready;
      order = (span_order T v c.in-Some.span c.requires.ready.fair.lawful is, omega (arith, span_end T v c.in-Some.span c.requires.ready.fair.lawful is, c.requires.ready.sized));
      late = covers;
    }

pub bounds : goal.bounds
bounds g c = omega (arith, origin_quay (g.B.Book.meaning c.args.book.now) c.args.trip (Via c.args.place c.args.ride c.args.change) c.args.labels.now (g.L.Line.keys c.args.line.now) c.requires.ready, c.requires.many)

pub bounds-spans-ride : goal.bounds-spans-ride
bounds-spans-ride g c = omega (arith, origin_quay (g.B.Book.meaning c.args.book.now) c.args.trip (Via c.args.place c.args.ride c.args.change) c.args.labels.now (g.L.Line.keys c.args.line.now) c.requires.ready, c.requires.many)

pub returns-in-Some : goal.returns-in-Some
returns-in-Some g c =
    let T = g.B.Book.meaning c.args.book.now in
    let (is, covers) = c.requires.opened c.args.ride.sailing.to c.in-Some.span c.in-Some.is in
    record {
      through = whole T c.args.trip (Via c.args.place c.args.ride c.args.change) c.args.labels.now c.follow_span.new.labels (g.L.Line.keys c.follow_span.new.line) c.in-Some.span is c.follow_span.ensures;
      opened = opened_better T c.args.trip c.args.labels.now c.follow_span.new.labels c.args.spans.now c.args.ride.arrives c.follow_span.ensures.better c.requires.opened;
    }
