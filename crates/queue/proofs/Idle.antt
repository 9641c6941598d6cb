-- A line in which nothing waits. Assumes nothing.
use Rattle.std.proofs.Common.{◌≡◌, ℕ, ◌≤◌, Bool, true, false, cond, ltb, take, None, Option, refl, arith}
use Rattle.std.proofs.lemmas.Bool.{ltb-true, ltb-false}
use Rattle.std.proofs.lemmas.List.{take-replicate, take_all, length-replicate}
use Rattle.queue.specs.Lines.{most_items, idle}
use Rattle.queue.specs.Tables.{size_for}

abbrev nothing : Option ℕ
nothing = None

-- of the longest line the items of a shorter one are kept
pub first_idle : (n : ℕ) → take n (idle most_items) ≡ idle (size_for n)
first_idle n = go (ltb n most_items) refl
  where
    go : (t : Bool) → ltb n most_items ≡ t → take n (idle most_items) ≡ idle (cond t n most_items)
    go true t = take-replicate n most_items nothing (omega (arith, ltb-true n most_items t))
    go false t = take_all n (idle most_items) (omega (arith, ltb-false n most_items t, length-replicate most_items nothing))

pub size_fits : (n : ℕ) → size_for n ≤ most_items
size_fits n = go (ltb n most_items) refl
  where
    go : (t : Bool) → ltb n most_items ≡ t → cond t n most_items ≤ most_items
    go true t = omega (arith, ltb-true n most_items t)
    go false t = omega arith
