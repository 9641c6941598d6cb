-- A book of four quays is lawful. Assumes nothing.
use Rattle.std.specs.Prelude.{◌≡◌, ℕ, zero, suc, ◌<◌, ◌≤◌, min, Bool, true, false, cond, List, [], ◌∷◌, map, length, get_or, take, Some, None, Option, ◌==◌, nat_lt, slice_index_or, refl}
use Rattle.std.proofs.Common.{sym, ◌∙◌, subst, ⊎_elim, arith}
use Rattle.std.proofs.lemmas.Bool.{cases_lt, ltb-true, eqb-false}
use Rattle.std.proofs.lemmas.List.{get_or_past, length-map, length-take}
use Rattle.timetable.specs.declared.sailing.Sailing.{Sailing}
use Rattle.timetable.specs.declared.span.Span.{Span}
use Rattle.timetable.specs.Times.{day}
use Rattle.timetable.specs.Timetables.{change_at, span_at, Lawful, Within}
use Rattle.routing_tests.specs.Books.{content_of, places_of, whole, meant}

some_sailing : (r s : Sailing) → ◌≡◌ {A = Option Sailing} (Some r) (Some s) → r ≡ s
some_sailing r s e = cc

if_true : (t : Bool) (x : Option Sailing) (s : Sailing) → cond t x None ≡ Some s → (t ≡ true) × (x ≡ Some s)
if_true true x s e = (refl, e)
if_true false x s e = let z : ◌≡◌ {A = ℕ} 0 1 = cc in absurd (omega arith)

if_false : (t : Bool) (x : Option Sailing) (s : Sailing) → cond t None x ≡ Some s → (t ≡ false) × (x ≡ Some s)
if_false true x s e = let z : ◌≡◌ {A = ℕ} 0 1 = cc in absurd (omega arith)
if_false false x s e = (refl, e)

content_within : (r s : Sailing) → content_of r ≡ Some s → Within 4 s
content_within r s e =
    let (a, e₁) = if_true (nat_lt r.from 4) _ s e in
    let (b, e₂) = if_true (nat_lt r.to 4) _ s e₁ in
    let (c, e₃) = if_false (r.to == r.from) _ s e₂ in
    let (d, e₄) = if_true (nat_lt r.dep day) _ s e₃ in
    let (f, e₅) = if_true (nat_lt r.arr day) _ s e₄ in
    subst (Within 4) (some_sailing r s e₅) (record { from_quay = ltb-true _ _ a; to_quay = ltb-true _ _ b; apart = eqb-false _ _ c; dep_day = ltb-true _ _ d; arr_day = ltb-true _ _ f })

row_within : (rows : List Sailing) (p : ℕ) (s : Sailing) → slice_index_or (map content_of rows) p None ≡ Some s → Within 4 s
row_within [] p s e = let z : ◌≡◌ {A = ℕ} 0 1 = cc in absurd (omega arith)
row_within (r ∷ rows) zero s e = content_within r s e
row_within (r ∷ rows) (suc p) s e = row_within rows p s e

inside : (xs : List (Option Sailing)) (p : ℕ) (s : Sailing) → slice_index_or xs p None ≡ Some s → p < length xs
inside xs p s e = ⊎_elim (λ lt. lt)
    (λ le. let n : get_or xs p None ≡ None = get_or_past xs p None le in let z : ◌≡◌ {A = ℕ} 0 1 = cc in absurd (omega arith))
    (cases_lt p (length xs))

pub places_many : (sailings : List Sailing) → length (places_of sailings) ≡ min 3072 (length sailings)
places_many sailings = length-map (take 3072 sailings) content_of ∙ length-take 3072 sailings

module _ (c : ℕ × ℕ × ℕ × ℕ) (sailings : List Sailing) where
  change_short : (q : ℕ) → change_at (meant c sailings) q < day
  change_short zero = omega arith
  change_short (suc zero) = omega arith
  change_short (suc (suc zero)) = omega arith
  change_short (suc (suc (suc zero))) = omega arith
  change_short (suc (suc (suc (suc q)))) = omega arith

  -- each quay spans all places, and what is no quay spans none
  span_is : (P : Span → Type 0) → P (whole (length (places_of sailings))) → P (whole 0) → (q : ℕ) → P (span_at (meant c sailings) q)
  span_is P here else' zero = here
  span_is P here else' (suc zero) = here
  span_is P here else' (suc (suc zero)) = here
  span_is P here else' (suc (suc (suc zero))) = here
  span_is P here else' (suc (suc (suc (suc q)))) = else'

  pub span_at_lem : (q : ℕ) → q < 4 → span_at (meant c sailings) q ≡ whole (length (places_of sailings))
  span_at_lem zero h = refl
  span_at_lem (suc zero) h = refl
  span_at_lem (suc (suc zero)) h = refl
  span_at_lem (suc (suc (suc zero))) h = refl
  span_at_lem (suc (suc (suc (suc q)))) h = absurd (omega arith)

  pub meant_lawful : Lawful (meant c sailings)
  meant_lawful = record {
    some_quay = omega arith;
    few_quays = omega arith;
    few_places = omega (arith, places_many sailings);
    as_many_spans = refl;
    change_day = change_short;
    within = λ p s e. row_within (take 3072 sailings) p s e;
    span_order = span_is (λ x. x.start ≤ x.end) (omega arith) (omega arith);
    span_end = span_is (λ x. x.end ≤ length (places_of sailings)) (omega arith) (omega arith);
    spanned = λ p s e. subst (λ (x : Span). (x.start ≤ p) × (p < x.end)) (sym (span_at_lem s.from (row_within (take 3072 sailings) p s e).from_quay)) (omega arith, inside (places_of sailings) p s e);
  }
