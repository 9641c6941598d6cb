-- What leaves another quay cannot outrank a sailing, so the span of its quay is all there is to look through. Assumes nothing.
use Rattle.std.proofs.Common.{◌≡◌, ℕ, zero, suc, ◌+◌, ◌-◌, ◌<◌, ◌≤◌, Bool, true, false, ◌||◌, List, [], ◌∷◌, length, get_or, take, drop, MatchOption, Some, None, Option, sym, refl, ap, ◌∙◌, subst, ⊎_elim, arith}
use Rattle.std.specs.List.{list_any, slice_range}
use Rattle.std.proofs.lemmas.Bool.{cases_lt, cases_Bool, or_left, or_right, or_cases, true≢false, false≢true}
use Rattle.std.proofs.lemmas.List.{get_or-drop}
use Rattle.timetable.specs.declared.sailing.Sailing.{Sailing}
use Rattle.timetable.specs.Timetables.{Timetable, Lawful, place_at, span_at}
use Rattle.thinning.specs.declared.standing.Standing.{Standing}
use Rattle.thinning.specs.Margins.{passes}
use Rattle.thinning.specs.Dominance.{outranks, over_from, some_below, dominated, mark_of}
use Rattle.thinning.specs.Weights.{weight_of, standing_from, row_outranks, Weighs}
use Rattle.thinning.proofs.Tested.{passing, outranks_parts}
use Rattle.thinning.proofs.Descent.{none_below}

-- what outranks q stands within the span of the quay that q leaves
in_span : (t : Timetable) → Lawful t → (p q : ℕ) (Q : Sailing) → over_from t p (place_at t p) q Q ≡ true →
    ((span_at t Q.from).start ≤ p) × (p < (span_at t Q.from).end)
in_span t law p q Q h =
    let r = passing (λ P. outranks t p P q Q) (place_at t p) h in
    let from = (outranks_parts t p r.0 q Q r.2).wins.from in
    subst (λ (n : ℕ). ((span_at t n).start ≤ p) × (p < (span_at t n).end)) from (law.spanned p r.0 r.1)

pub none_in_span : (t : Timetable) → Lawful t → (q : ℕ) (Q : Sailing) (i : ℕ) → (span_at t Q.from).end ≤ i →
    ((k : ℕ) → (span_at t Q.from).start ≤ k → k < i → over_from t k (place_at t k) q Q ≡ false) → false ≡ dominated t q Q
none_in_span t law q Q i h none = sym (none_below (λ p. over_from t p (place_at t p) q Q) (length t.places) (λ p _. off p))
  where
    off : (p : ℕ) → over_from t p (place_at t p) q Q ≡ false
    off p = ⊎_elim
        (λ (e : over_from t p (place_at t p) q Q ≡ true). let s = in_span t law p q Q e in none p s.0 (omega (arith, s.1, h)))
        (λ (e : over_from t p (place_at t p) q Q ≡ false). e)
        (cases_Bool (over_from t p (place_at t p) q Q))

below_found : (f : ℕ → Bool) (n i : ℕ) → i < n → f i ≡ true → some_below f n ≡ true
below_found f zero i h e = absurd (omega arith)
below_found f (suc n) i h e = ⊎_elim
    (λ (k : i < n). or_right (f n) _ (below_found f n i k e))
    (λ (k : n ≤ i). or_left (f n) _ (ap f (omega arith) ∙ e))
    (cases_lt i n)

pub one_in_span : (t : Timetable) (q : ℕ) (Q : Sailing) (p : ℕ) → p < length t.places → over_from t p (place_at t p) q Q ≡ true → true ≡ dominated t q Q
one_in_span t q Q p h e = sym (below_found (λ k. over_from t k (place_at t k) q Q) (length t.places) p h e)

-- a comparison of what is weighed is that of the sailings
over_weighed : (t : Timetable) (p q : ℕ) (x : Option Sailing) (Q : Sailing) →
    row_outranks (record { place = q; sailing = Q; weight = weight_of t Q }) (standing_from t p x) ≡ over_from t p x q Q
over_weighed t p q None Q = refl
over_weighed t p q (Some P) Q = refl

same_standing : (x y : Standing) → Some x ≡ Some y → x ≡ y
same_standing x y e = cc

some_none : (q : Standing) → None ≡ Some q → ⊥
some_none q e = let z : ◌≡◌ {A = ℕ} 0 1 = cc in omega arith

-- a sailing that is weighed at a place stands there
stood : (t : Timetable) (p : ℕ) (x : Option Sailing) (q : Standing) → Some q ≡ standing_from t p x →
    (x ≡ Some q.sailing) × (q ≡ record { place = p; sailing = q.sailing; weight = weight_of t q.sailing })
stood t p None q e = absurd (some_none q (sym e))
stood t p (Some s) q e =
    let same = same_standing q _ e in
    (ap (λ (x : Standing). Some x.sailing) (sym same), subst (λ (x : Standing). x ≡ record { place = p; sailing = x.sailing; weight = weight_of t x.sailing }) (sym same) refl)

or_off : (x y : Bool) → (x || y) ≡ false → (x ≡ false) × (y ≡ false)
or_off true y h = absurd (true≢false h)
or_off false y h = (refl, h)

module _ (f : Option Standing → Bool) where
  -- one of the first n rows passes
  one_of : (n : ℕ) (rows : List (Option Standing)) → list_any f (take n rows) ≡ true → (k : ℕ) × (k < n) × (f (get_or rows k None) ≡ true)
  one_of zero rows h = absurd (false≢true h)
  one_of (suc n) [] h = absurd (false≢true h)
  one_of (suc n) (x ∷ rows) h = ⊎_elim
      (λ (e : f x ≡ true). (0, omega arith, e))
      (λ (e : list_any f (take n rows) ≡ true). let r = one_of n rows e in (suc r.0, omega arith, r.2))
      (or_cases (f x) (list_any f (take n rows)) h)

  -- none of them does
  none_of : f None ≡ false → (n : ℕ) (rows : List (Option Standing)) → list_any f (take n rows) ≡ false → (k : ℕ) → k < n → f (get_or rows k None) ≡ false
  none_of z zero rows h k l = absurd (omega arith)
  none_of z (suc n) [] h k l = z
  none_of z (suc n) (x ∷ rows) h zero l = (or_off (f x) (list_any f (take n rows)) h).0
  none_of z (suc n) (x ∷ rows) h (suc k) l = none_of z n rows (or_off (f x) (list_any f (take n rows)) h).1 k (omega arith)

-- the rows of its quay decide whether q is dominated
pub span_decides : (t : Timetable) → Lawful t → (rows : List (Option Standing)) → Weighs t rows → (q : Standing) → get_or rows q.place None ≡ Some q →
    list_any (row_outranks q) (slice_range rows (span_at t q.sailing.from).start (span_at t q.sailing.from).end) ≡ dominated t q.place q.sailing
span_decides t law rows w q e = ⊎_elim
    (λ (h : list_any f part ≡ true).
    let r = one_of f (b - a) (drop a rows) h in
    h ∙ one_in_span t q.place q.sailing (a + r.0) (omega (arith, r.1, law.span_end q.sailing.from)) (sym (over (a + r.0)) ∙ sym (ap f (get_or-drop a rows r.0 None)) ∙ r.2))
    (λ (h : list_any f part ≡ false).
    h ∙ none_in_span t law q.place q.sailing b (omega arith) (λ k low high.
    sym (over k) ∙ ap (λ n. f (get_or rows n None)) (omega arith) ∙ sym (ap f (get_or-drop a rows (k - a) None)) ∙ none_of f refl (b - a) (drop a rows) h (k - a) (omega arith)))
    (cases_Bool (list_any f part))
  where
    f : Option Standing → Bool
    f = row_outranks q

    a : ℕ
    a = (span_at t q.sailing.from).start

    b : ℕ
    b = (span_at t q.sailing.from).end

    part : List (Option Standing)
    part = take (b - a) (drop a rows)

    over : (p : ℕ) → f (get_or rows p None) ≡ over_from t p (place_at t p) q.place q.sailing
    over p =
        let is = (stood t q.place (place_at t q.place) q (sym e ∙ w.each q.place)).1 in
        ap f (w.each p) ∙ ap (λ (x : Standing). row_outranks x (standing_from t p (place_at t p))) is ∙ over_weighed t p q.place (place_at t p) q.sailing

-- and it stands at its place
stands_there : (t : Timetable) (rows : List (Option Standing)) → Weighs t rows → (p : ℕ) (q : Standing) → get_or rows p None ≡ Some q →
    (place_at t p ≡ Some q.sailing) × (q.place ≡ p)
stands_there t rows w p q e =
    let r = stood t p (place_at t p) q (sym e ∙ w.each p) in
    (r.0, ap (λ (x : Standing). x.place) r.1)

unstood : (t : Timetable) (p : ℕ) (x : Option Sailing) → None ≡ standing_from t p x → x ≡ None
unstood t p None e = refl
unstood t p (Some s) e = absurd (some_none _ e)

-- what is answered of the row of a place is its mark
pub row_marked : (t : Timetable) (rows : List (Option Standing)) → Weighs t rows → (p : ℕ) (row : Option Standing) → get_or rows p None ≡ row →
    (r : Bool) (P : Standing → Type 0) → ((q : Standing) → P q → r ≡ dominated t q.place q.sailing) → MatchOption row (r ≡ false) P → r ≡ mark_of t p
row_marked t rows w p None e r P says h = h ∙ sym (ap (passes (dominated t p)) (unstood t p (place_at t p) (sym e ∙ w.each p)))
row_marked t rows w p (Some q) e r P says h =
    let is = stands_there t rows w p q e in
    says q h ∙ ap (λ n. dominated t n q.sailing) is.1 ∙ sym (ap (passes (dominated t p)) is.0)
