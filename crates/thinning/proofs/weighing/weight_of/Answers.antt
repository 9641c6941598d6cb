use Rattle.std.proofs.Common.{◌≡◌, ℕ, ap, ◌∙◌, ap₂}
use Rattle.timetable.specs.Times.{continues}
use Rattle.thinning.specs.declared.standing.Weight.{Weight}
use Rattle.thinning.specs.Margins.{some_passes, margin, margin_before, margin_after}
use Rattle.thinning.proofs.weighing.weight_of.Goals as goal

same_weight : (l m a b x y : ℕ) → l ≡ m → a ≡ b → x ≡ y → ◌≡◌ {A = Weight} (record { length = l; before = a; after = x }) (record { length = m; before = b; after = y })
same_weight l m a b x y e f h = λ i. record { length = e i; before = f i; after = h i }

pub returns : goal.returns
returns g c =
    let t = g.B.Book.meaning c.args.book.now in
    let s = c.args.s in
    same_weight _ _ _ (margin_before t s) _ (margin_after t s) c.length.ensures.value
    (c.margin_of.ensures ∙ ap₂ margin (c.continues_some.ensures ∙ ap (some_passes (λ r. continues s r)) c.requires) c.change_at.ensures)
    (c.margin_of-2.ensures ∙ ap₂ margin (c.is_continued.ensures ∙ ap (some_passes (λ r. continues r s)) c.requires) c.change_at-2.ensures)
