-- What a waiting line does. Its keys: for each item the key with which it waits, or none. Assumes nothing.
use Rattle.std.specs.Prelude.{◌≡◌, ℕ, ◌≤◌, cond, List, length, replicate, Some, None, Ok, Err, Option, Result, nat_lt, slice_index_or, slice_set}
use Rattle.timetable.specs.declared.refusal.Refusal.{Refusal}
use Rattle.timetable.specs.declared.refusal.Refusal.TheVariants.{NoItem}

-- no line has more items
abbrev pub most_items : ℕ
most_items = 3072

-- this many items, none of which waits
abbrev pub idle : ℕ → List (Option ℕ)
idle n = replicate n None

-- item i waits with key k
abbrev pub Waits : List (Option ℕ) → ℕ → ℕ → Type 0
Waits ks i k = slice_index_or ks i None ≡ Some k

-- item i waits with this key, no item waits with a lesser one, and none below i with the same
pub record First (ks : List (Option ℕ)) (i key : ℕ) : Type 0 where
  pub waits : Waits ks i key
  pub least : (j k : ℕ) → Waits ks j k → key ≤ k
  pub lowest : (j : ℕ) → Waits ks j key → i ≤ j

-- what `take` may tell, and what it leaves: nothing exactly where nothing waits, else the first item, which waits no more
abbrev pub Takes : List (Option ℕ) → Option (ℕ × ℕ) → List (Option ℕ) → Type 0
Takes ks None after = ((i k : ℕ) → Waits ks i k → ⊥) × (after ≡ ks)
Takes ks (Some x) after = First ks x.0 x.1 × (after ≡ slice_set ks x.0 None)

-- what `set` answers, and what it leaves: an item that is not there is refused, and changes nothing
abbrev pub set_answer : List (Option ℕ) → ℕ → Result Unit Refusal
set_answer ks i = cond (nat_lt i (length ks)) (Ok tt) (Err NoItem)

abbrev pub set_in : List (Option ℕ) → ℕ → ℕ → List (Option ℕ)
set_in ks i key = cond (nat_lt i (length ks)) (slice_set ks i (Some key)) ks
