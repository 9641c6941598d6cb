-- A heap of waiting items and the keys of the items tell the same. Assumes nothing.
use Rattle.std.specs.Prelude.{◌≡◌, ℕ, ◌+◌, ◌≤◌, Bool, true, false, cond, List, length, Some, None, sum_by, count_by, Option, ◌==◌, nat_eq, slice_index_or}
use Rattle.heapline.specs.declared.entry.Waiting.{Waiting}

-- how often an item is among those that wait
abbrev pub times_of : List Waiting → ℕ → ℕ
times_of ws i = count_by (λ w. nat_eq w.item i) ws

-- the key of an item as one number: 0 says that it does not wait, and k + 1 that it waits with key k
abbrev pub code : Option ℕ → ℕ
code None = 0
code (Some k) = k + 1

-- the same by those that wait; a sum, so that it does not depend on their order
abbrev pub key_of : List Waiting → ℕ → ℕ
key_of ws i = sum_by (λ w. cond (w.item == i) (w.key + 1) 0) ws

abbrev pub waits : Option ℕ → Bool
waits None = false
waits (Some k) = true

-- those that wait are just the items that have a key, each once and with its key
pub record Tallies (ws : List Waiting) (keys : List (Option ℕ)) : Type 0 where
  pub single : (i : ℕ) → times_of ws i ≤ 1
  pub tied : (i : ℕ) → key_of ws i ≡ code (slice_index_or keys i None)
  pub counted : length ws ≡ count_by waits keys
