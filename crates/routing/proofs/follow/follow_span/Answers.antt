use Rattle.std.proofs.Common.{length, arith}
use Rattle.routing.specs.declared.ride.Origin.TheVariants.{Via}
use Rattle.routing.specs.Relaxing.{late}
use Rattle.routing.proofs.Relaxed.{joined, none_yet}
use Rattle.routing.proofs.Steps.{covers_better}
use Rattle.routing.proofs.follow.follow_span.Goals as goal

pub loop-place-init : goal.loop-place-init
loop-place-init g c = none_yet _ _ _ _ _ _ c.requires.ready

pub follow-requires : goal.follow-requires
follow-requires g c = record {
  ready = c.loop-place.invariant.ready;
  inside = omega (arith, c.requires.order.1);
  late = covers_better (g.B.Book.meaning c.args.book.now) c.args.labels.now c.loop-place.labels (late (g.B.Book.meaning c.args.book.now) c.args.trip c.args.ridden.sailing.to c.args.ridden.arrives) 0 (length (g.B.Book.meaning c.args.book.now).places) c.loop-place.invariant.better c.requires.late;
}

pub loop-place-preserved : goal.loop-place-preserved
loop-place-preserved g c =
    joined (g.B.Book.meaning c.args.book.now) c.args.trip (Via c.args.k c.args.ridden c.args.change) c.args.labels.now c.loop-place.labels c.follow.new.labels
    (g.L.Line.keys c.loop-place.line) (g.L.Line.keys c.follow.new.line) _ _ _ c.loop-place.invariant c.follow.ensures
