-- The first of the items that wait, as a table finds it. Assumes nothing.
use Rattle.std.specs.Prelude.{◌≡◌, ℕ, ◌<◌, ◌≤◌, cond, List, Some, None, Option, nat_lt}
use Rattle.queue.specs.Lines.{Waits, First}

-- the better of what was best before and an item after it
abbrev pub better_of : Option (ℕ × ℕ) → ℕ → ℕ → Option (ℕ × ℕ)
better_of None i k = Some (i, k)
better_of (Some x) i k = cond (nat_lt k x.1) (Some (i, k)) (Some x)

-- the best of the items below n
abbrev pub BestBelow : List (Option ℕ) → ℕ → Option (ℕ × ℕ) → Type 0
BestBelow ks n None = (j k : ℕ) → j < n → Waits ks j k → ⊥
BestBelow ks n (Some x) = (x.0 < n) × Waits ks x.0 x.1 × ((j k : ℕ) → j < n → Waits ks j k → (x.1 ≤ k) × (k ≡ x.1 → x.0 ≤ j))

-- the best of all items
abbrev pub FirstOf : List (Option ℕ) → Option (ℕ × ℕ) → Type 0
FirstOf ks None = (j k : ℕ) → Waits ks j k → ⊥
FirstOf ks (Some x) = First ks x.0 x.1
