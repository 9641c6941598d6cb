-- What each call does to a heap line. Assumes nothing.
use Rattle.std.proofs.Common.{◌≡◌, ℕ, zero, suc, ◌-◌, ◌<◌, cond, List, [], ◌∷◌, length, get_or, take, drop, set, Some, None, Ok, Err, count_by, Option, sym, refl, ap, ◌∙◌, subst, ⊎_elim, arith}
use Rattle.std.specs.List.{refill}
use Rattle.std.specs.List.Sorted.{IsPermutation}
use Rattle.std.proofs.lemmas.List.Sums.{sum_by-cons}
use Rattle.std.proofs.lemmas.List.{get_or_past, get_or-take, get_or-replicate, get_or_default, length-set, length-take-le, length-replicate, same_lists, take_at}
use Rattle.std.proofs.lemmas.Bool.{cases_lt}
use Rattle.timetable.specs.declared.refusal.Refusal.{Refusal}
use Rattle.queue.specs.Lines.{idle, Waits, First}
use Rattle.heap.specs.Heaps.{TakesFrom}
use Rattle.heapline.specs.declared.entry.Waiting.{Waiting}
use Rattle.heapline.specs.declared.line.HeapLine.{HeapLine}
use Rattle.heapline.specs.Ranks.{rank_of_waiting}
use Rattle.heapline.specs.Tallies.{code, waits, Tallies}
use Rattle.heapline.specs.Lines.{keys_of, Places}
use Rattle.heapline.proofs.Kept.{fewer_wait, same_item, rank_there, tallies_added, tallies_replaced, took_inside, tallies_taken, is_first, none_wait}

abbrev nothing : Option ℕ
nothing = None

-- a key is written through a loan of all of them
module _ (ks : List (Option ℕ)) where
  pub all_written : (zs : List (Option ℕ)) → length zs ≡ length ks → refill (length ks) ks zs ≡ zs
  all_written zs e = take_at zs (drop (length zs) ks) (length ks) e

  pub written : (view : List (Option ℕ)) (i j : ℕ) (x : Option ℕ) → view ≡ ks → j ≡ i → refill (length ks) ks (set view j x) ≡ set ks i x
  written view i j x e s =
      ap (λ v. refill (length ks) ks (set v j x)) e ∙ ap (λ k. refill (length ks) ks (set ks k x)) s ∙ all_written (set ks i x) (length-set ks i x)

  pub read : (view : List (Option ℕ)) (i j : ℕ) → view ≡ ks → j ≡ i → get_or view j None ≡ get_or ks i None
  read view i j e s = ap (λ v. get_or v j None) e ∙ ap (λ k. get_or ks k None) s

module _ (h : HeapLine) where
  abbrev rows : List Waiting
  rows = h.waiting.heap.store

  abbrev count : ℕ
  count = h.waiting.heap.count

  abbrev ws : List Waiting
  ws = take count rows

  abbrev keys : List (Option ℕ)
  keys = h.keys.items

  ws_long : length ws ≡ count
  ws_long = length-take-le count rows h.waiting.heap.within

  module _ (item key : ℕ) (small : item < length keys) where
    abbrev w : Waiting
    w = record { key = key; item = item }

    -- the heap has room for an item that does not wait, and has the rank of one that does
    pub never_refused : (new : List Waiting) (m : ℕ) (e : Refusal) → Places rows count (get_or keys item None) w new m (Err e) → ⊥
    never_refused new m e = go (get_or keys item None) refl
      where
        go : (x : Option ℕ) → get_or keys item None ≡ x → Places rows count x w new m (Err e) → ⊥
        go None is told = omega (arith, told.0, fewer_wait ws keys h.tallied item small is, ws_long, h.waiting.long, h.few)
        go (Some k) is told =
            let (j, a, r) = rank_there ws keys h.tallied item k w is in
            let lt : j < count = omega (arith, ws_long) in
            told.0 j w lt (ap rank_of_waiting (sym (get_or-take count rows j w lt)) ∙ r)

    pub placed : (new : List Waiting) (m : ℕ) (u : Unit) → Places rows count (get_or keys item None) w new m (Ok u) → Tallies (take m new) (set keys item (Some key))
    placed new m u = go (get_or keys item None) refl
      where
        go : (x : Option ℕ) → get_or keys item None ≡ x → Places rows count x w new m (Ok u) → Tallies (take m new) (set keys item (Some key))
        go None is told =
            let s : IsPermutation (w ∷ ws) (take m new) = subst (λ i. IsPermutation (w ∷ ws) (take i new)) (sym told.1) told.0.entries in
            tallies_added ws keys h.tallied item key small (take m new) is s
        go (Some k) is told =
            let p = told.0.place in
            let lt : p < count = told.0.inside in
            let in-ws : p < length ws = omega (arith, ws_long) in
            let s : IsPermutation (set ws p w) (take m new) = subst (λ i. IsPermutation (set ws p w) (take i new)) (sym told.1) told.0.entries in
            let same = same_item ws keys h.tallied p item k w in-ws (omega (arith, h.few)) (omega (arith, h.few)) (ap rank_of_waiting (get_or-take count rows p w lt) ∙ told.0.ranked w) in
            tallies_replaced ws keys h.tallied item key small (take m new) k p is in-ws same s

  pub nothing_taken : count ≡ 0 → (i k : ℕ) → Waits (keys_of h) i k → ⊥
  nothing_taken z i k e =
      let t : Tallies [] keys = subst (λ n. Tallies (take n rows) keys) z h.tallied in
      let c = ap code (sym (none_wait keys t i) ∙ e) in
      omega arith

  module _ (w : Waiting) (new : List Waiting) (m : ℕ) (taken : TakesFrom rank_of_waiting rows count new m (Some w)) where
    left : IsPermutation ws (w ∷ take m new)
    left = let e : count - 1 ≡ m = omega (arith, taken.1) in subst (λ n. IsPermutation ws (w ∷ take n new)) e taken.0.entries

    pub taken_first : First (keys_of h) w.item w.key
    taken_first = is_first ws keys h.tallied w (take m new) left (omega (arith, h.few))
        (λ j d l.
        let lt : j < count = omega (arith, ws_long) in
        let e = ap rank_of_waiting (get_or-take count rows j d lt) in
        let r = taken.2 j d lt in
        omega arith)

    pub taken_inside : w.item < length keys
    taken_inside = took_inside ws keys h.tallied w (take m new) left

    pub taken_tallies : Tallies (take m new) (set keys w.item None)
    taken_tallies = tallies_taken ws keys h.tallied w (take m new) left

-- all keys were taken away
pub all_idle : (ks zs : List (Option ℕ)) → Tallies [] zs → length zs ≡ length ks → refill (length ks) ks zs ≡ idle (length ks)
all_idle ks zs t e = all_written ks zs e ∙ same_lists zs (idle (length ks)) (e ∙ sym (length-replicate (length ks) nothing))
    (λ k d lt. get_or_default zs k d None lt ∙ none_wait zs t k ∙ sym (get_or-replicate (length ks) k None d (omega arith)))

none_idle : (n i : ℕ) → get_or (idle n) i None ≡ None
none_idle n i = ⊎_elim (λ lt. get_or-replicate n i None None lt) (λ le. get_or_past (idle n) i None (omega (arith, length-replicate n nothing))) (cases_lt i n)

none_counted : (n : ℕ) → count_by waits (idle n) ≡ 0
none_counted zero = refl
none_counted (suc n) = omega (arith, sum_by-cons (λ o. cond (waits o) 1 0) nothing (idle n), none_counted n)

-- nothing waits, and no item has a key
pub idle_tallies : (n : ℕ) → Tallies [] (idle n)
idle_tallies n = record { single = λ i. omega arith; tied = λ i. sym (ap code (none_idle n i)); counted = sym (none_counted n) }
