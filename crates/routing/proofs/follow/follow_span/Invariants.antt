use Rattle.routing.specs.declared.ride.Origin.TheVariants.{Via}
use Rattle.routing.specs.Relaxing.{Through}
use Rattle.routing.proofs.follow.follow_span.Given as goal

abbrev pub invariant-loop-place : goal.invariant-loop-place
invariant-loop-place g l = Through (g.B.Book.meaning l.book) l.trip (Via l.k l.ridden l.change) l.initial.labels l.labels (g.L.Line.keys l.line) l.initial.place l.place
