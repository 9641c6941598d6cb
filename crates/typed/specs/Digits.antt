-- The digits of a number. Assumes nothing.
use Rattle.std.specs.Prelude.{◌≡◌, ℕ, ◌+◌, ◌/◌, ◌%◌, ◌<◌, List, [], ◌∷◌, ◌++◌, map, length, slice_index_or}
use Rattle.std.specs.Int.Digits.{digits_of}
use Rattle.numerals.specs.Digits.{AllDigits, decimal}

-- as bytes: those before the last, which are none below 10, and the last
abbrev pub digits : ℕ → List ℕ
digits n = map (λ d. 48 + d) (digits_of 10 (n / 10)) ++ (48 + n % 10) ∷ []

-- what it is to spell a number: digits and nothing else, worth the number, and no 0 before another digit
pub record Spells (n : ℕ) (bs : List ℕ) : Type 0 where
  pub some : 0 < length bs
  pub all_digits : AllDigits bs 0 (length bs)
  pub worth : decimal bs ≡ n
  pub no_zero : slice_index_or bs 0 0 ≡ 48 → length bs ≡ 1
