-- Numbers in a line. Assumes nothing.
use Rattle.std.specs.Prelude.{◌≡◌, ℕ, ◌+◌, ◌-◌, ◌<◌, ◌≤◌, cond, ◌&&◌, ◌||◌, List, length, take, drop, Some, None, Option, ◌==◌, nat_lt, slice_index, slice_index_or}
use Rattle.numerals.specs.declared.field.Field.{Field}
use Rattle.numerals.specs.Digits.{Digit, AllDigits, digit_run, decimal}

-- a number of so many digits at the front of bytes that stand from `start` on; `of` makes a value of a number
abbrev pub numeral_of : {T : Type 0} → (ℕ → T) → ℕ → ℕ → List ℕ → ℕ → ℕ → Option (Field T)
numeral_of of digits most bs start count =
    cond (count == 0 || nat_lt digits count) None
    (cond (nat_lt most (decimal (take count bs))) None (Some (record { value = of (decimal (take count bs)); next = start + count })))

abbrev pub numeral_from : {T : Type 0} → (ℕ → T) → ℕ → ℕ → List ℕ → ℕ → Option (Field T)
numeral_from of digits most bs start = numeral_of of digits most bs start (digit_run bs)

-- a space and a number
abbrev pub numeral_at : {T : Type 0} → (ℕ → T) → ℕ → ℕ → List ℕ → ℕ → Option (Field T)
numeral_at of digits most line at =
    cond (nat_lt at (length line) && slice_index line at == 32) (numeral_from of digits most (drop (at + 1) line) (at + 1)) None

-- a number stands in a line from byte `at` on; `worth` tells the number that a value stands for
pub record Stands {T : Type 0} (worth_of : T → ℕ) (most_digits most : ℕ) (line : List ℕ) (at : ℕ) (f : Field T) : Type 0 where
  pub space : slice_index_or line at 0 ≡ 32
  pub some_digit : at + 2 ≤ f.next
  pub few_digits : f.next ≤ at + 1 + most_digits
  pub inside : f.next ≤ length line
  pub digits : AllDigits line (at + 1) f.next
  pub no_further : f.next < length line → Digit (slice_index line f.next) → ⊥
  pub worth : worth_of f.value ≡ decimal (take (f.next - (at + 1)) (drop (at + 1) line))
  pub small : worth_of f.value ≤ most

-- numbers of up to 16 bits
abbrev pub number_at : List ℕ → ℕ → Option (Field ℕ)
number_at line at = numeral_at (λ n. n) 5 65535 line at

abbrev pub Numeral : List ℕ → ℕ → Field ℕ → Type 0
Numeral line at f = Stands (λ n. n) 5 65535 line at f

-- numbers of up to 32 bits
abbrev pub wide_at : List ℕ → ℕ → Option (Field ℕ)
wide_at line at = numeral_at (λ n. n) 10 4294967295 line at

abbrev pub WideNumeral : List ℕ → ℕ → Field ℕ → Type 0
WideNumeral line at f = Stands (λ n. n) 10 4294967295 line at f
