-- Digits and what they write. Assumes nothing.
use Rattle.std.specs.Prelude.{ℕ, ◌+◌, ◌-◌, ◌*◌, ◌<◌, ◌≤◌, Bool, ◌&&◌, List, fold, nat_le, slice_index}
use Rattle.std.specs.List.{prefix_len}

abbrev pub is_digit : ℕ → Bool
is_digit b = nat_le 48 b && nat_le b 57

-- how many digits a list begins with
abbrev pub digit_run : List ℕ → ℕ
digit_run bs = prefix_len is_digit bs

-- the number that digits write, the first of them counting most
abbrev pub decimal : List ℕ → ℕ
decimal bs = fold (λ v b. v * 10 + (b - 48)) 0 bs

-- a byte that is one of the ten digits
abbrev pub Digit : ℕ → Type 0
Digit b = (48 ≤ b) × (b ≤ 57)

-- every byte of a line from one place on and before another is a digit
abbrev pub AllDigits : List ℕ → ℕ → ℕ → Type 0
AllDigits line from to = (i : ℕ) → from ≤ i → i < to → Digit (slice_index line i)
