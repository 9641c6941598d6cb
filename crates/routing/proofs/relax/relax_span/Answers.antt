use Rattle.routing.proofs.Relaxed.{joined}
use Rattle.routing.proofs.relax.relax_span.Goals as goal

pub loop-place-preserved : goal.loop-place-preserved
loop-place-preserved g c =
    joined (g.B.Book.meaning c.args.book.now) c.args.trip c.args.origin c.args.labels.now c.loop-place.labels c.relax.new.labels
    (g.L.Line.keys c.loop-place.line) (g.L.Line.keys c.relax.new.line) _ _ _ c.loop-place.invariant c.relax.ensures
