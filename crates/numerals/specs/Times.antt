-- Times of the day in a line. Assumes nothing.
use Rattle.std.specs.Prelude.{◌≡◌, ℕ, ◌+◌, ◌-◌, ◌*◌, ◌≤◌, cond, ◌&&◌, ◌||◌, List, length, Some, None, Option, ◌==◌, nat_le, nat_lt, slice_index, slice_index_or}
use Rattle.numerals.specs.declared.field.Field.{Field}
use Rattle.numerals.specs.Digits.{is_digit, AllDigits}

-- the number that the two digits from a place on write
abbrev pub two_digits : List ℕ → ℕ → ℕ
two_digits line at = (slice_index line at - 48) * 10 + (slice_index line (at + 1) - 48)

abbrev pub two_from : List ℕ → ℕ → Option ℕ
two_from line at = cond (is_digit (slice_index line at) && is_digit (slice_index line (at + 1))) (Some (two_digits line at)) None

abbrev pub minutes_of : Option ℕ → Option ℕ → Option ℕ
minutes_of None m = None
minutes_of (Some h) None = None
minutes_of (Some h) (Some m) = cond (nat_lt 23 h || nat_lt 59 m) None (Some (60 * h + m))

-- two digits, any byte, two digits
abbrev pub clock_from : List ℕ → ℕ → Option ℕ
clock_from line at = minutes_of (two_from line at) (two_from line (at + 3))

abbrev pub up_to : Option ℕ → ℕ → Option (Field ℕ)
up_to None next = None
up_to (Some v) next = Some (record { value = v; next = next })

-- a space, and a time with its colon
abbrev pub time_at : List ℕ → ℕ → Option (Field ℕ)
time_at line at =
    cond (nat_le (at + 6) (length line) && (slice_index line at == 32 && slice_index line (at + 3) == 58)) (up_to (clock_from line (at + 1)) (at + 6)) None

-- a time of the day stands in a line from byte `at` on
pub record TimeOfDay (line : List ℕ) (at : ℕ) (f : Field ℕ) : Type 0 where
  pub space : slice_index_or line at 0 ≡ 32
  pub hour_digits : AllDigits line (at + 1) (at + 3)
  pub colon : slice_index_or line (at + 3) 0 ≡ 58
  pub minute_digits : AllDigits line (at + 4) (at + 6)
  pub hours : two_digits line (at + 1) ≤ 23
  pub minutes : two_digits line (at + 4) ≤ 59
  pub worth : f.value ≡ 60 * two_digits line (at + 1) + two_digits line (at + 4)
  pub ends : f.next ≡ at + 6
  pub inside : f.next ≤ length line
