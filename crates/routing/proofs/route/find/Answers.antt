use Rattle.std.proofs.Common.{None, Option, sym, refl, subst, arith}
use Rattle.timetable.specs.declared.span.Span.{Span}
use Rattle.routing.specs.Trips.{trip_of, Unmade}
use Rattle.routing.specs.Turns.{Asked, Arrival}
use Rattle.routing.proofs.Begun.{one_value}
use Rattle.routing.proofs.Told.{arrival_depth, best}
use Rattle.routing.proofs.route.find.Goals as goal

pub prepare-requires : goal.prepare-requires
prepare-requires g c = record {
  asked = subst (λ w. Asked (g.B.Book.meaning c.args.book.now) w c.args.labels.now (g.L.Line.keys c.args.line.now)) (sym c.from-trip.ensures) c.requires.asked;
  many = omega arith;
  closed = one_value {X = Option Span} 256 None;
}

pub write_legs-requires : goal.write_legs-requires
write_legs-requires g c =
    let T = g.B.Book.meaning c.args.book.now in
    let arrival = c.in_ok-last.ensures in
    record {
      known = (T, c.from-trip.result, arrival);
      room = omega (arith, arrival_depth T c.from-trip.result c.explore.new.labels c.in_ok-last.last c.in_ok-last.ride arrival, c.requires.room);
    }

pub returns-in_err-last : goal.returns-in_err-last
returns-in_err-last g c = rw c.from_residual.ensures (subst (λ w. Unmade (g.B.Book.meaning c.args.book.now) w) c.from-trip.ensures c.in_err-last.ensures, refl)

pub returns : goal.returns
returns g c =
    let T = g.B.Book.meaning c.args.book.now in
    let arrival = subst (λ w. Arrival T w c.explore.new.labels c.in_ok-last.last c.in_ok-last.ride) c.from-trip.ensures c.in_ok-last.ensures in
    best T c.args.query c.explore.new.labels c.in_ok-last.last c.in_ok-last.ride arrival _ _
    (c.write_legs.ensures.written T (trip_of c.args.query) arrival) c.write_legs.ensures.rest
