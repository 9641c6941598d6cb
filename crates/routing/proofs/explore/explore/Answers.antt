use Rattle.std.proofs.Common.{arith}
use Rattle.routing.proofs.Steps.{settled_le}
use Rattle.routing.proofs.Turned.{none_waits, opened_after, arrived, onward, gone}
use Rattle.routing.proofs.explore.explore.Goals as goal

pub returns-then-ride-trip : goal.returns-then-ride-trip
returns-then-ride-trip g c =
    arrived (g.B.Book.meaning c.args.book.now) c.args.trip c.turns.labels (g.L.Line.keys c.turns.line) c.turns.spans c.turns.invariant
    c.in-Some.place c.in-Some.ride c.settle_first.new.labels (g.L.Line.keys c.settle_first.new.line) c.in-Some.ensures c.if-ride-trip.true

pub go_on-requires-clause-ready : goal.go_on-requires-clause-ready
go_on-requires-clause-ready g c =
    onward (g.B.Book.meaning c.args.book.now) c.args.trip c.turns.labels (g.L.Line.keys c.turns.line) c.turns.spans c.turns.invariant
    c.in-Some.place c.in-Some.ride c.settle_first.new.labels (g.L.Line.keys c.settle_first.new.line) c.in-Some.ensures _ (omega (arith, c.change_at.ensures, c.from.ensures))

pub go_on-requires-clause-opened : goal.go_on-requires-clause-opened
go_on-requires-clause-opened g c =
    opened_after (g.B.Book.meaning c.args.book.now) c.args.trip c.turns.labels (g.L.Line.keys c.turns.line) c.turns.spans c.turns.invariant
    c.in-Some.place c.in-Some.ride c.settle_first.new.labels (g.L.Line.keys c.settle_first.new.line) c.in-Some.ensures

pub turns-preserved : goal.turns-preserved
turns-preserved g c =
    (gone (g.B.Book.meaning c.args.book.now) c.args.trip c.turns.labels (g.L.Line.keys c.turns.line) c.turns.spans c.turns.invariant
    c.in-Some.place c.in-Some.ride c.settle_first.new.labels (g.L.Line.keys c.settle_first.new.line) c.in-Some.ensures _
    (omega (arith, c.change_at.ensures, c.from.ensures)) c.if-ride-trip.false _ _ _ (omega arith) c.go_on.ensures.opened c.go_on.ensures.through).0

pub turns-smaller : goal.turns-smaller
turns-smaller g c =
    let more = (gone (g.B.Book.meaning c.args.book.now) c.args.trip c.turns.labels (g.L.Line.keys c.turns.line) c.turns.spans c.turns.invariant
    c.in-Some.place c.in-Some.ride c.settle_first.new.labels (g.L.Line.keys c.settle_first.new.line) c.in-Some.ensures _
    (omega (arith, c.change_at.ensures, c.from.ensures)) c.if-ride-trip.false _ _ _ (omega arith) c.go_on.ensures.opened c.go_on.ensures.through).1 in
    omega (arith, more, settled_le c.go_on.new.labels)

pub returns : goal.returns
returns g c = none_waits (g.B.Book.meaning c.args.book.now) c.args.trip c.turns.labels (g.L.Line.keys c.turns.line) c.turns.spans c.turns.invariant c.in_default.ensures
