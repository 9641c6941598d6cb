use Rattle.std.proofs.Common.{set, sym, ap, ◌∙◌}
use Rattle.timetable.specs.Times.{continues}
use Rattle.routing.specs.declared.ride.Origin.TheVariants.{Via}
use Rattle.routing.specs.Labels.{look, ride_of, reach}
use Rattle.routing.proofs.Best.{same_sailing}
use Rattle.routing.proofs.Opens.{skipped, continues_from, differ}
use Rattle.routing.proofs.Relaxed.{small, stepped}
use Rattle.routing.proofs.follow.follow.Goals as goal

pub ride_from-requires : goal.ride_from-requires
ride_from-requires g c =
    let T = g.B.Book.meaning c.args.book.now in
    small T c.args.trip c.args.labels.now (g.L.Line.keys c.args.line.now) (Via c.args.k c.args.ridden c.args.change) c.requires.ready c.args.place c.in-Waiting.waiting.sailing
    (c.requires.ready.inv.made c.args.place c.in-Waiting.waiting (ap ride_of c.in-Waiting.is)).stands

pub returns-then-continues : goal.returns-then-continues
returns-then-continues g c =
    let T = g.B.Book.meaning c.args.book.now in
    stepped T c.args.trip c.args.labels.now (g.L.Line.keys c.args.line.now) (Via c.args.k c.args.ridden c.args.change) c.requires.ready c.args.place c.in-Waiting.waiting.sailing
    (c.requires.ready.inv.made c.args.place c.in-Waiting.waiting (ap ride_of c.in-Waiting.is)).stands
    (continues_from c.in-Waiting.waiting.sailing c.args.ridden.sailing (sym c.if-continues.ensures.value)) c.relax_place.new.labels (g.L.Line.keys c.relax_place.new.line)
    (c.relax_place.ensures.after ∙ ap (λ n. set c.args.labels.now c.args.place (reach (look c.args.labels.now c.args.place) n)) c.ride_from.ensures)
    c.relax_place.ensures.linked

pub returns-else-continues : goal.returns-else-continues
returns-else-continues g c =
    let T = g.B.Book.meaning c.args.book.now in
    skipped T c.args.trip c.args.labels.now (g.L.Line.keys c.args.line.now) c.args.k c.args.change c.args.ridden c.requires.ready c.requires.late c.args.place
    (λ x old w e yes.
    let same = same_sailing T c.args.place x c.in-Waiting.waiting.sailing e (c.requires.ready.inv.made c.args.place c.in-Waiting.waiting (ap ride_of c.in-Waiting.is)).stands in
    differ (continues c.in-Waiting.waiting.sailing c.args.ridden.sailing) (ap (λ z. continues z c.args.ridden.sailing) (sym same) ∙ yes) c.if-continues.ensures.value)

pub returns-in_default : goal.returns-in_default
returns-in_default g c =
    let T = g.B.Book.meaning c.args.book.now in
    skipped T c.args.trip c.args.labels.now (g.L.Line.keys c.args.line.now) c.args.k c.args.change c.args.ridden c.requires.ready c.requires.late c.args.place
    (λ x old w e yes. c.in_default.not-Waiting old w)
