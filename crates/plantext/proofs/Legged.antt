-- A leg is read exactly where it stands, and refused for the first thing that is wrong. Assumes nothing.
use Rattle.std.proofs.Common.{◌≡◌, ℕ, ◌<◌, ◌≤◌, eqb, List, length, Some, None, Ok, Err, Option, Result, sym, refl, ap, ◌∙◌, subst, inl, inr, arith}
use Rattle.std.specs.Option.{ok_or}
use Rattle.std.proofs.lemmas.Bool.{cond_both, eqb-true, eqb-false, eq-eqb, ne_eqb, cond-true, cond-false}
use Rattle.timetable.specs.declared.refusal.Refusal.{Refusal}
use Rattle.timetable.specs.declared.refusal.Refusal.TheVariants.{NoNumber, Surplus}
use Rattle.timetable.specs.declared.query.Leg.{Leg}
use Rattle.numerals.specs.declared.field.Field.{Field}
use Rattle.numerals.specs.Numbers.{Numeral, number_at, WideNumeral, wide_at}
use Rattle.numerals.proofs.Standing.{number_tells, number_told, wide_tells, wide_told}
use Rattle.typed.specs.Fields.{and_then, whole}
use Rattle.plantext.specs.Lines.{wide_here, leg_with, leg_of, leg_line}
use Rattle.plantext.specs.Standing.{Begins, LegStands, LegMisses, LegExceeds}
use Rattle.plantext.specs.Saying.{Answers, Says, LegSays}
use Rattle.plantext.proofs.Lettered.{After, says_line}

-- what is not read does not stand there, and what does not stand there is not read
no_number : (line : List ℕ) (at : ℕ) → number_at line at ≡ None → (f : Field ℕ) → Numeral line at f → ⊥
no_number line at e f h = let t = number_told line at f h in let z : ◌≡◌ {A = ℕ} 0 1 = cc in omega arith

number_none : (line : List ℕ) (at : ℕ) → ((f : Field ℕ) → Numeral line at f → ⊥) → number_at line at ≡ None
number_none line at h = go (number_at line at) (λ f e. h f (number_tells line at f e))
  where
    go : (o : Option (Field ℕ)) → ((f : Field ℕ) → o ≡ Some f → ⊥) → o ≡ None
    go None k = refl
    go (Some f) k = absurd (k f refl)

no_wide : (line : List ℕ) (at : ℕ) → wide_at line at ≡ None → (f : Field ℕ) → WideNumeral line at f → ⊥
no_wide line at e f h = let t = wide_told line at f h in let z : ◌≡◌ {A = ℕ} 0 1 = cc in omega arith

wide_none : (line : List ℕ) (at : ℕ) → ((f : Field ℕ) → WideNumeral line at f → ⊥) → wide_at line at ≡ None
wide_none line at h = go (wide_at line at) (λ f e. h f (wide_tells line at f e))
  where
    go : (o : Option (Field ℕ)) → ((f : Field ℕ) → o ≡ Some f → ⊥) → o ≡ None
    go None k = refl
    go (Some f) k = absurd (k f refl)

abbrev to_end : List ℕ → Field ℕ → Field ℕ → Field ℕ → Result Leg Refusal
to_end line p l a = whole line a.next (leg_with p l a)

abbrev after_two : List ℕ → Field ℕ → Field ℕ → Result Leg Refusal
after_two line p l = and_then (wide_here line l.next) (to_end line p l)

abbrev after_one : List ℕ → Field ℕ → Result Leg Refusal
after_one line p = and_then (wide_here line p.next) (after_two line p)

abbrev W : List ℕ → Refusal → Type 0
W line = After line 76 (LegStands line) (LegMisses line) (LegExceeds line)

module _ (line : List ℕ) where
  -- each number that stands is read
  place_read : (p : Field ℕ) → Numeral line 1 p → leg_of line ≡ after_one line p
  place_read p h = ap (λ o. and_then (ok_or o NoNumber) (after_one line)) (number_told line 1 p h)

  leaves_read : (p : Field ℕ) (l : Field ℕ) → WideNumeral line p.next l → after_one line p ≡ after_two line p l
  leaves_read p l h = ap (λ o. and_then (ok_or o NoNumber) (after_two line p)) (wide_told line p.next l h)

  arrives_read : (p : Field ℕ) (l a : Field ℕ) → WideNumeral line l.next a → after_two line p l ≡ to_end line p l a
  arrives_read p l a h = ap (λ o. and_then (ok_or o NoNumber) (to_end line p l)) (wide_told line l.next a h)

  all_read : (p : Field ℕ) (l a : Field ℕ) → Numeral line 1 p → WideNumeral line p.next l → WideNumeral line l.next a → leg_of line ≡ to_end line p l a
  all_read p l a x y z = place_read p x ∙ (leaves_read p l y ∙ arrives_read p l a z)

  stands_told : (leg : Leg) → LegStands line leg → leg_of line ≡ Ok leg
  stands_told leg s =
      let p : Field ℕ = record { value = leg.place; next = s.after_place } in
      let l : Field ℕ = record { value = leg.leaves; next = s.after_leaves } in
      let a : Field ℕ = record { value = leg.arrives; next = length line } in
      all_read p l a s.place s.leaves s.arrives ∙ cond-true (eqb (length line) (length line)) (Ok leg) (Err Surplus) (eq-eqb (length line) (length line) refl)

  misses_told : LegMisses line → leg_of line ≡ Err NoNumber
  misses_told (inl h) = ap (λ o. and_then (ok_or o NoNumber) (after_one line)) (number_none line 1 h)
  misses_told (inr (p, x, inl h)) = place_read p x ∙ ap (λ o. and_then (ok_or o NoNumber) (after_two line p)) (wide_none line p.next h)
  misses_told (inr (p, x, inr (l, y, h))) =
      place_read p x ∙ (leaves_read p l y ∙ ap (λ o. and_then (ok_or o NoNumber) (to_end line p l)) (wide_none line l.next h))

  exceeds_told : LegExceeds line → leg_of line ≡ Err Surplus
  exceeds_told h =
      let a = h.arrives in
      let more = h.more in
      all_read h.place h.leaves a h.place_stands h.leaves_stands h.arrives_stands
      ∙ cond-false (eqb a.next (length line)) (Ok (leg_with h.place h.leaves a)) (Err Surplus) (ne_eqb a.next (length line) (λ e. omega arith))

  module _ (b : Begins line 76) where
    ended : (p : Field ℕ) (l a : Field ℕ) → Numeral line 1 p → WideNumeral line p.next l → WideNumeral line l.next a → Answers (LegStands line) (W line) (to_end line p l a)
    ended p l a x y z =
        cond_both (eqb a.next (length line)) _ _ (Answers (LegStands line) (W line))
        (λ e. record {
          begins = b;
          after_place = p.next;
          place = x;
          after_leaves = l.next;
          leaves = y;
          arrives = subst (λ n. WideNumeral line l.next (record { value = a.value; next = n })) (eqb-true a.next (length line) e) z;
        })
        (λ e. let n = eqb-false a.next (length line) e in let i = z.inside in
        inr (record { place = p; leaves = l; arrives = a; place_stands = x; leaves_stands = y; arrives_stands = z; more = less a.next (length line) i n }, refl))
      where
        less : (m n : ℕ) → m ≤ n → (m ≡ n → ⊥) → m < n
        less m n h k = omega (arith, h, k)

    third : (p : Field ℕ) (l : Field ℕ) → Numeral line 1 p → WideNumeral line p.next l → (o : Option (Field ℕ)) → wide_at line l.next ≡ o → Answers (LegStands line) (W line) (and_then (ok_or o NoNumber) (to_end line p l))
    third p l x y None e = inl (inr (p, x, inr (l, y, no_wide line l.next e)), refl)
    third p l x y (Some a) e = ended p l a x y (wide_tells line l.next a e)

    second : (p : Field ℕ) → Numeral line 1 p → (o : Option (Field ℕ)) → wide_at line p.next ≡ o → Answers (LegStands line) (W line) (and_then (ok_or o NoNumber) (after_two line p))
    second p x None e = inl (inr (p, x, inl (no_wide line p.next e)), refl)
    second p x (Some l) e = third p l x (wide_tells line p.next l e) (wide_at line l.next) refl

    first : (o : Option (Field ℕ)) → number_at line 1 ≡ o → Answers (LegStands line) (W line) (and_then (ok_or o NoNumber) (after_one line))
    first None e = inl (inl (no_number line 1 e), refl)
    first (Some p) e = second p (number_tells line 1 p e) (wide_at line p.next) refl

    only : (o : Result Leg Refusal) → Answers (LegStands line) (W line) o → o ≡ leg_of line
    only (Ok leg) s = sym (stands_told leg s)
    only (Err e) (inl (m, q)) = ap Err q ∙ sym (misses_told m)
    only (Err e) (inr (m, q)) = ap Err q ∙ sym (exceeds_told m)

    after_says : Says (LegStands line) (W line) (leg_of line)
    after_says = record { right = first (number_at line 1) refl; only = only }

  pub leg_says : LegSays line (leg_line line)
  leg_says = says_line line 76 (LegStands line) (LegMisses line) (LegExceeds line) (leg_of line) (λ leg s. s.begins) after_says

  pub leg_says_at : (r : Result Leg Refusal) → r ≡ leg_line line → LegSays line r
  leg_says_at r e = subst (LegSays line) (sym e) leg_says
