use Rattle.std.proofs.Common.{◌≡◌, length, None, ap, ◌∙◌, arith}
use Rattle.std.proofs.lemmas.List.{get_or_past}
use Rattle.tables.specs.declared.marks.Marks.{Marks}
use Rattle.tables.specs.Lists.{many}
use Rattle.thinning.specs.Margins.{passes}
use Rattle.thinning.specs.Dominance.{dominated, mark_of}
use Rattle.thinning.proofs.Marking.{marking_starts, marking_set, marking_skip, marking_ends}
use Rattle.thinning.proofs.weighing.Weighed.mark.Goals as goal
use Rattle.thinning.proofs.weighing.Weighed.mark.Goals.{then-is_to_mark, else-is_to_mark}

pub loop-place-init : goal.loop-place-init
loop-place-init g c = marking_starts _ _ c.erase.ensures

pub loop-place-preserved : goal.loop-place-preserved
loop-place-preserved g c =
    elim c.if-is_to_mark.branch [
      | then-is_to_mark w ↦ marking_set _ _ _ _ _ _ c.loop-place.invariant (omega (arith, (g.B.Book.lawful c.args.self.now.book.now).few_places)) w.if-is_to_mark.ensures (ap (λ (m : Marks). m.at) w.marks-is ∙ w.mark.ensures) w.count-is
      | else-is_to_mark w ↦ marking_skip _ _ _ _ _ _ c.loop-place.invariant w.if-is_to_mark.ensures (ap (λ (m : Marks). m.at) w.marks-is) w.count-is
    ]

pub returns : goal.returns
returns g c =
    let t = g.B.Book.meaning c.args.self.now.book.now in
    let e : c.loop-place.place ≡ length t.places = omega (arith, c.args.self.now.each.wide) in
    record {
      exact = marking_ends (mark_of t) _ _ _ _ c.loop-place.invariant e (λ p h. ap (passes (dominated t p)) (get_or_past t.places p None h));
      count = c.loop-place.invariant.count ∙ ap (many (mark_of t)) e;
    }
