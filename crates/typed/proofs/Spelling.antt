-- What the digits of a number are. Assumes nothing.
use Rattle.std.proofs.Common.{◌≡◌, ℕ, ◌+◌, ◌-◌, ◌*◌, ◌/◌, ◌%◌, ◌^◌, ◌<◌, ◌≤◌, List, [], ◌∷◌, ◌++◌, map, length, get_or, fold, refl, ap, ◌∙◌, ⊎_elim, arith}
use Rattle.std.specs.List.{AllByRecursion as All}
use Rattle.std.specs.Int.Digits.{digits_of, number_from_digits_after}
use Rattle.std.proofs.lemmas.Int.Digits.{digits_of_step, length-digits_of-le, all_below_base_digits_of, first_digits_of, number_digits_of}
use Rattle.std.proofs.ByRecursion.{All-get_or, All-push, All-map, All-weaker}
use Rattle.std.proofs.lemmas.List.{map-append, length-map, length_push, get_or_append_left, get_or-map}
use Rattle.std.proofs.lemmas.List.Sums.{fold_push}
use Rattle.std.proofs.lemmas.Bool.{cases_lt}
use Rattle.numerals.specs.Digits.{Digit, AllDigits, decimal}
use Rattle.typed.specs.Digits.{digits, Spells}

-- the bytes of digits
abbrev bytes : List ℕ → List ℕ
bytes ds = map (λ d. 48 + d) ds

pub digits-one : (n : ℕ) → n < 10 → digits n ≡ (48 + n) ∷ []
digits-one n h =
    let front : n / 10 ≡ 0 = omega arith in
    let last : n % 10 ≡ n = omega arith in
    ap (λ k. bytes (digits_of 10 k) ++ (48 + n % 10) ∷ []) front ∙ ap (λ k. (48 + k) ∷ []) last

pub digits_more : (n : ℕ) → 10 ≤ n → digits n ≡ digits (n / 10) ++ (48 + n % 10) ∷ []
digits_more n h =
    let some : 0 < n / 10 = omega arith in
    let front : bytes (digits_of 10 (n / 10)) ≡ digits (n / 10) =
    ap bytes (digits_of_step 10 (n / 10) (omega arith) some) ∙ map-append (λ d. 48 + d) (digits_of 10 (n / 10 / 10)) ((n / 10 % 10) ∷ []) in
    ap (λ k. k ++ (48 + n % 10) ∷ []) front

pub digits_grow : (n : ℕ) → 10 ≤ n → length (digits n) ≡ length (digits (n / 10)) + 1
digits_grow n h = ap length (digits_more n h) ∙ length_push (digits (n / 10)) (48 + n % 10)

pub few_digits : (n : ℕ) → n < 2 ^ 64 → length (digits n) ≤ 20
few_digits n h =
    omega (arith, length_push (bytes (digits_of 10 (n / 10))) (48 + n % 10), length-map (digits_of 10 (n / 10)) (λ d. 48 + d), length-digits_of-le 10 19 (n / 10) (omega arith) (omega arith))

worth_after : (v : ℕ) (ds : List ℕ) → fold (λ w b. w * 10 + (b - 48)) v (bytes ds) ≡ number_from_digits_after 10 v ds
worth_after v [] = refl
worth_after v (d ∷ ds) =
    let one : v * 10 + (48 + d - 48) ≡ v * 10 + d = omega arith in
    ap (λ w. fold (λ u b. u * 10 + (b - 48)) w (bytes ds)) one ∙ worth_after (v * 10 + d) ds

worth : (n : ℕ) → decimal (digits n) ≡ n
worth n =
    let front = worth_after 0 (digits_of 10 (n / 10)) ∙ number_digits_of 10 (n / 10) (omega arith) in
    omega (arith, fold_push (λ w b. w * 10 + (b - 48)) 0 (bytes (digits_of 10 (n / 10))) (48 + n % 10))

pub spells : (n : ℕ) → Spells n (digits n)
spells n = record {
  some = omega (arith, long);
  all_digits = each;
  worth = worth n;
  no_zero = λ h. ⊎_elim (λ l. ap length (digits-one n l)) (λ l. absurd (leading l h)) (cases_lt n 10);
}
  where
    before : All Digit (bytes (digits_of 10 (n / 10)))
    before =
        All-map Digit (λ d. 48 + d) (digits_of 10 (n / 10)) (All-weaker (λ d. d < 10) (λ d. Digit (48 + d)) (λ d h. (omega arith, omega arith)) (digits_of 10 (n / 10)) (all_below_base_digits_of 10 (n / 10) (omega arith)))

    some_from : (ds : List ℕ) → 0 < get_or ds 0 0 → 0 < length ds
    some_from [] h = h
    some_from (d ∷ ds) h = omega arith

    long : length (digits n) ≡ length (bytes (digits_of 10 (n / 10))) + 1
    long = length_push (bytes (digits_of 10 (n / 10))) (48 + n % 10)

    each : AllDigits (digits n) 0 (length (digits n))
    each i l u = All-get_or Digit (digits n) i 0 u (All-push Digit (bytes (digits_of 10 (n / 10))) (48 + n % 10) before (omega arith, omega arith))

    leading : 10 ≤ n → get_or (digits n) 0 0 ≡ 48 → ⊥
    leading l h =
        let ds = digits_of 10 (n / 10) in
        let first : 0 < get_or ds 0 0 = first_digits_of 10 (n / 10) (omega arith) (omega arith) in
        let some : 0 < length ds = some_from ds first in
        omega (arith, get_or_append_left (bytes ds) ((48 + n % 10) ∷ []) 0 0 (omega (arith, length-map ds (λ d. 48 + d))), get_or-map (λ d. 48 + d) ds 0 0 0 some)
