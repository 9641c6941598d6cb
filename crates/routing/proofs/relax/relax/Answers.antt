use Rattle.std.proofs.Common.{◌≡◌, ℕ, set, sym, ap, ◌∙◌, arith}
use Rattle.routing.specs.Labels.{look, reach}
use Rattle.routing.proofs.Best.{stands_inside, same_sailing}
use Rattle.routing.proofs.Relaxed.{small, stepped, passed}
use Rattle.routing.proofs.relax.relax.Goals as goal

pub ride_from-requires : goal.ride_from-requires
ride_from-requires g c =
    small (g.B.Book.meaning c.args.book.now) c.args.trip c.args.labels.now (g.L.Line.keys c.args.line.now) c.args.origin c.requires c.args.place c.in-Some.s (sym c.in-Some.ensures)

pub relax_place-requires : goal.relax_place-requires
relax_place-requires g c = record {
  inside = omega (arith, stands_inside (g.B.Book.meaning c.args.book.now) c.args.place c.in-Some.s (sym c.in-Some.ensures), c.requires.sized);
  linked = c.requires.linked;
}

pub returns-then-s-quay_of : goal.returns-then-s-quay_of
returns-then-s-quay_of g c =
    stepped (g.B.Book.meaning c.args.book.now) c.args.trip c.args.labels.now (g.L.Line.keys c.args.line.now) c.args.origin c.requires c.args.place c.in-Some.s (sym c.in-Some.ensures)
    (c.if-s-quay_of.true ∙ c.quay_of.ensures) c.relax_place.new.labels (g.L.Line.keys c.relax_place.new.line)
    (c.relax_place.ensures.after ∙ ap (λ n. set c.args.labels.now c.args.place (reach (look c.args.labels.now c.args.place) n)) c.ride_from.ensures)
    c.relax_place.ensures.linked

pub returns-else-s-quay_of : goal.returns-else-s-quay_of
returns-else-s-quay_of g c =
    let T = g.B.Book.meaning c.args.book.now in
    passed T c.args.trip c.args.labels.now (g.L.Line.keys c.args.line.now) c.args.origin c.requires c.args.place
    (λ s e f. c.if-s-quay_of.false (ap (λ x. x.from) (same_sailing T c.args.place c.in-Some.s s (sym c.in-Some.ensures) e) ∙ f ∙ sym c.quay_of.ensures))

pub returns-in_default : goal.returns-in_default
returns-in_default g c =
    let T = g.B.Book.meaning c.args.book.now in
    passed T c.args.trip c.args.labels.now (g.L.Line.keys c.args.line.now) c.args.origin c.requires c.args.place
    (λ s e f. let n = c.in_default.ensures in let z : ◌≡◌ {A = ℕ} 0 1 = cc in omega arith)
