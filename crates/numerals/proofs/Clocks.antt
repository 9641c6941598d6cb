-- A time of the day is read exactly where it stands. Assumes nothing.
use Rattle.std.proofs.Common.{◌≡◌, ℕ, zero, suc, ◌+◌, ◌-◌, ◌*◌, ◌<◌, ◌≤◌, true, false, ◌&&◌, ◌||◌, eqb, ltb, leb, ◌⊎◌, List, length, get_or, Some, None, Option, sym, refl, ap, ◌∙◌, subst, inl, inr, arith}
use Rattle.std.proofs.lemmas.Bool.{and_parts, and_from, or_parts, or_from, ltb-false, leb-true, eqb-true, le-ltb, le-leb, eq-eqb, cond-true, cond-false}
use Rattle.numerals.specs.declared.field.Field.{Field}
use Rattle.numerals.specs.Digits.{is_digit, Digit, AllDigits}
use Rattle.numerals.specs.Times.{two_digits, two_from, minutes_of, clock_from, up_to, time_at, TimeOfDay}
use Rattle.numerals.proofs.Standing.{opened, passed, same_field, digit_true, true_digit}

-- the digits of a pair, and what they write
pub record Two (line : List ℕ) (at v : ℕ) : Type 0 where
  pub one : Digit (get_or line at 0)
  pub other : Digit (get_or line (at + 1) 0)
  pub worth : v ≡ two_digits line at

two_tells : (line : List ℕ) (at v : ℕ) → two_from line at ≡ Some v → Two line at v
two_tells line at v h =
    let a = opened (is_digit (get_or line at 0) && is_digit (get_or line (at + 1) 0)) (Some (two_digits line at)) v h in
    let d = and_parts (is_digit (get_or line at 0)) (is_digit (get_or line (at + 1) 0)) a.0 in
    record { one = digit_true (get_or line at 0) d.0; other = digit_true (get_or line (at + 1) 0) d.1; worth = let e = a.1 in cc }

two_told : (line : List ℕ) (at : ℕ) → AllDigits line at (at + 2) → two_from line at ≡ Some (two_digits line at)
two_told line at h =
    cond-true _ (Some (two_digits line at)) None
    (and_from (is_digit (get_or line at 0)) (is_digit (get_or line (at + 1) 0)) (true_digit (get_or line at 0) (h at (omega arith) (omega arith))) (true_digit (get_or line (at + 1) 0) (h (at + 1) (omega arith) (omega arith))))

all_two : (line : List ℕ) (at v to : ℕ) → to ≡ at + 2 → Two line at v → AllDigits line at to
all_two line at v to e t i l u = go (cases_two (i - at) (omega arith))
  where
    cases_two : (k : ℕ) → k < 2 → (k ≡ 0) ⊎ (k ≡ 1)
    cases_two zero h = inl refl
    cases_two (suc zero) h = inr refl
    cases_two (suc (suc k)) h = absurd (omega arith)

    go : (i - at ≡ 0) ⊎ (i - at ≡ 1) → Digit (get_or line i 0)
    go (inl z) = subst (λ k. Digit (get_or line k 0)) (omega arith) t.one
    go (inr z) = subst (λ k. Digit (get_or line k 0)) (omega arith) t.other

-- hours and minutes that make a time
pub record Made (h m : Option ℕ) (v : ℕ) : Type 0 where
  pub hours : ℕ
  pub minutes : ℕ
  pub hours_there : h ≡ Some hours
  pub minutes_there : m ≡ Some minutes
  pub hours_few : hours ≤ 23
  pub minutes_few : minutes ≤ 59
  pub worth : v ≡ 60 * hours + minutes

made : (h m : Option ℕ) (v : ℕ) → minutes_of h m ≡ Some v → Made h m v
made None m v e = let z : ◌≡◌ {A = ℕ} 0 1 = cc in absurd (omega arith)
made (Some h) None v e = let z : ◌≡◌ {A = ℕ} 0 1 = cc in absurd (omega arith)
made (Some h) (Some m) v e =
    let a = passed (ltb 23 h || ltb 59 m) (Some (60 * h + m)) v e in
    let s = or_parts (ltb 23 h) (ltb 59 m) a.0 in
    record {
      hours = h;
      minutes = m;
      hours_there = refl;
      minutes_there = refl;
      hours_few = ltb-false 23 h s.0;
      minutes_few = ltb-false 59 m s.1;
      worth = let q = a.1 in cc;
    }

-- a value that was found, with the byte after it
pub record Upto (o : Option ℕ) (next : ℕ) (f : Field ℕ) : Type 0 where
  pub there : o ≡ Some f.value
  pub ends : f.next ≡ next

upto : (o : Option ℕ) (next : ℕ) (f : Field ℕ) → up_to o next ≡ Some f → Upto o next f
upto None next f h = let z : ◌≡◌ {A = ℕ} 0 1 = cc in absurd (omega arith)
upto (Some v) next f h = record { there = cc; ends = cc }

pub time_tells : (line : List ℕ) (at : ℕ) (f : Field ℕ) → time_at line at ≡ Some f → TimeOfDay line at f
time_tells line at f h =
    let a = opened (leb (at + 6) (length line) && (eqb (get_or line at 0) 32 && eqb (get_or line (at + 3) 0) 58)) (up_to (clock_from line (at + 1)) (at + 6)) f h in
    let s = and_parts (leb (at + 6) (length line)) (eqb (get_or line at 0) 32 && eqb (get_or line (at + 3) 0) 58) a.0 in
    let t = and_parts (eqb (get_or line at 0) 32) (eqb (get_or line (at + 3) 0) 58) s.1 in
    let u = upto (clock_from line (at + 1)) (at + 6) f a.1 in
    let m = made (two_from line (at + 1)) (two_from line (at + 1 + 3)) f.value u.there in
    let four : at + 1 + 3 ≡ at + 4 = omega arith in
    let hh = two_tells line (at + 1) m.hours m.hours_there in
    let mm = subst (λ k. Two line k m.minutes) four (two_tells line (at + 1 + 3) m.minutes m.minutes_there) in
    let inside = leb-true (at + 6) (length line) s.0 in
    record {
      space = eqb-true (get_or line at 0) 32 t.0;
      hour_digits = all_two line (at + 1) m.hours (at + 3) (omega arith) hh;
      colon = eqb-true (get_or line (at + 3) 0) 58 t.1;
      minute_digits = all_two line (at + 4) m.minutes (at + 6) (omega arith) mm;
      hours = omega (arith, hh.worth, m.hours_few);
      minutes = omega (arith, mm.worth, m.minutes_few);
      worth = omega (arith, hh.worth, mm.worth, m.worth);
      ends = u.ends;
      inside = omega (arith, u.ends);
    }

pub time_told : (line : List ℕ) (at : ℕ) (f : Field ℕ) → TimeOfDay line at f → time_at line at ≡ Some f
time_told line at f h =
    let hours = two_digits line (at + 1) in
    let minutes = two_digits line (at + 4) in
    let four : at + 4 ≡ at + 1 + 3 = omega arith in
    let hh : two_from line (at + 1) ≡ Some hours = two_told line (at + 1) (λ i l u. h.hour_digits i l (omega arith)) in
    let mm : two_from line (at + 1 + 3) ≡ Some minutes =
    subst (λ k. two_from line k ≡ Some minutes) four (two_told line (at + 4) (λ i l u. h.minute_digits i l (omega arith))) in
    let few : (ltb 23 hours || ltb 59 minutes) ≡ false = or_from (ltb 23 hours) (ltb 59 minutes) (le-ltb 23 hours h.hours) (le-ltb 59 minutes h.minutes) in
    let clock : clock_from line (at + 1) ≡ Some (60 * hours + minutes) = both hh mm few in
    let starts : (leb (at + 6) (length line) && (eqb (get_or line at 0) 32 && eqb (get_or line (at + 3) 0) 58)) ≡ true =
    and_from (leb (at + 6) (length line)) (eqb (get_or line at 0) 32 && eqb (get_or line (at + 3) 0) 58) (le-leb (at + 6) (length line) (omega (arith, h.inside, h.ends)))
    (and_from (eqb (get_or line at 0) 32) (eqb (get_or line (at + 3) 0) 58) (eq-eqb (get_or line at 0) 32 h.space) (eq-eqb (get_or line (at + 3) 0) 58 h.colon)) in
    let value : 60 * hours + minutes ≡ f.value = sym h.worth in
    let next : at + 6 ≡ f.next = sym h.ends in
    let made : Some (record { value = 60 * hours + minutes; next = at + 6 }) ≡ Some f = same_field _ _ f value next in
    cond-true _ (up_to (clock_from line (at + 1)) (at + 6)) None starts ∙ (ap (λ o. up_to o (at + 6)) clock ∙ made)
  where
    both : {a b : Option ℕ} {h m : ℕ} → a ≡ Some h → b ≡ Some m → (ltb 23 h || ltb 59 m) ≡ false → minutes_of a b ≡ Some (60 * h + m)
    both {a} {b} {h} {m} p q e = ap (λ o. minutes_of o b) p ∙ (ap (λ o. minutes_of (Some h) o) q ∙ cond-false (ltb 23 h || ltb 59 m) None (Some (60 * h + m)) e)
