-- A walk over the span of a quay meets every sailing that leaves it. Assumes nothing.
use Rattle.std.proofs.Common.{◌≡◌, ℕ, zero, suc, ◌+◌, ◌-◌, ◌<◌, ◌≤◌, min, List, [], length, get_or, Some, None, Ok, Option, sym, refl, ap, ◌∙◌, subst, ⊎_elim, add-one, arith}
use Rattle.std.specs.List.{fold, reduce, filter_map, range_with_len, cons_option}
use Rattle.std.proofs.lemmas.Bool.{cases_eq, ne_eqb}
use Rattle.timetable.specs.declared.refusal.Refusal.TheVariants.{NoQuay}
use Rattle.timetable.specs.declared.sailing.Sailing.{Sailing}
use Rattle.timetable.specs.declared.span.Span.{Span}
use Rattle.timetable.specs.Answers.{span_of}
use Rattle.timetable.specs.Timetables.{Timetable, Lawful, place_at, span_at, nowhere}
use Rattle.timetable.proofs.Told.{asked_ok}
use Rattle.console.specs.Told.{departure, sooner, soonest}

-- a place that holds no sailing from q adds nothing
pub other_place : (best : Option ℕ) (o : Option Sailing) (q u : ℕ) → ((s : Sailing) → o ≡ Some s → s.from ≡ q → ⊥) → sooner best (departure o q u) ≡ best
other_place None None q u h = refl
other_place (Some m) None q u h = refl
other_place None (Some s) q u h = rw (ne_eqb s.from q (h s refl))
other_place (Some m) (Some s) q u h = rw (ne_eqb s.from q (h s refl))

soonest_same : (ps : List (Option Sailing)) (q u a n : ℕ) → a ≤ n → ((p : ℕ) (s : Sailing) → a ≤ p → p < n → get_or ps p None ≡ Some s → s.from ≡ q → ⊥) → soonest ps q u n ≡ soonest ps q u a
soonest_same ps q u a zero l h = let z : a ≡ 0 = omega arith in rw z
soonest_same ps q u a (suc n) l h =
    ⊎_elim
    (λ same. ap (soonest ps q u) (sym same))
    (λ other.
    other_place (soonest ps q u n) (get_or ps n None) q u (λ s e. h n s (omega arith) (omega arith) e)
    ∙ soonest_same ps q u a n (omega arith) (λ p s i j. h p s i (omega arith)))
    (cases_eq a (suc n))

-- the least of a number, if there is one, and those of a list
abbrev joined : Option ℕ → List ℕ → Option ℕ
joined None xs = reduce min xs
joined (Some m) xs = Some (fold min m xs)

joined_more : (best o : Option ℕ) (xs : List ℕ) → joined best (cons_option o xs) ≡ joined (sooner best o) xs
joined_more None None xs = refl
joined_more None (Some n) xs = refl
joined_more (Some m) None xs = refl
joined_more (Some m) (Some n) xs = refl

joined_none : (best : Option ℕ) → joined best [] ≡ best
joined_none None = refl
joined_none (Some m) = refl

-- a walk over n places from a on
walked : (ps : List (Option Sailing)) (q u n a : ℕ) (best : Option ℕ) → best ≡ soonest ps q u a → joined best (filter_map (λ p. departure (get_or ps p None) q u) (range_with_len a n)) ≡ soonest ps q u (a + n)
walked ps q u zero a best h = let e : a ≡ a + 0 = omega arith in joined_none best ∙ h ∙ ap (soonest ps q u) e
walked ps q u (suc n) a best h =
    let o = departure (get_or ps a None) q u in
    let e : a + 1 + n ≡ a + suc n = omega arith in
    joined_more best o _
    ∙ walked ps q u n (a + 1) (sooner best o) (rw add-one (ap (λ b. sooner b o) h))
    ∙ ap (soonest ps q u) e

module _ (t : Timetable) (law : Lawful t) (q u : ℕ) (sp : Span) (is : Ok sp ≡ span_of t q) where
  span_is : sp ≡ span_at t q
  span_is = (asked_ok t.spans q nowhere sp NoQuay is).1

  -- a sailing from q stands within the span
  inside : (p : ℕ) (s : Sailing) → place_at t p ≡ Some s → s.from ≡ q → (sp.start ≤ p) × (p < sp.end)
  inside p s e f = subst (λ x. (x.start ≤ p) × (p < x.end)) (ap (span_at t) f ∙ sym span_is) (law.spanned p s e)

  span_none : None ≡ soonest t.places q u sp.start
  span_none = sym (soonest_same t.places q u 0 sp.start (omega arith) (λ p s i j e f. omega (arith, inside p s e f)))

  span_all : soonest t.places q u (length t.places) ≡ soonest t.places q u sp.end
  span_all =
      soonest_same t.places q u sp.end (length t.places)
      (subst (λ x. x.end ≤ length t.places) (sym span_is) (law.span_end q))
      (λ p s i j e f. omega (arith, inside p s e f))

  -- the soonest at the places of the span is the soonest of all
  pub span_told : reduce min (filter_map (λ p. departure (place_at t p) q u) (range_with_len sp.start (sp.end - sp.start))) ≡ soonest t.places q u (length t.places)
  span_told =
      let ordered : sp.start ≤ sp.end = subst (λ x. x.start ≤ x.end) (sym span_is) (law.span_order q) in
      let e : sp.start + (sp.end - sp.start) ≡ sp.end = omega (arith, ordered) in
      walked t.places q u (sp.end - sp.start) sp.start None span_none ∙ ap (soonest t.places q u) e ∙ sym span_all
