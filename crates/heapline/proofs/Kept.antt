-- A heap of waiting items and the keys of the items change together. Assumes nothing.
use Rattle.std.proofs.Common.{◌≡◌, ℕ, suc, ◌+◌, ◌*◌, ◌<◌, ◌≤◌, cond, eqb, List, [], ◌∷◌, length, get_or, drop, set, Some, None, count_by, Option, sym, refl, ap, ◌∙◌, subst, ⊎_elim, arith, eq-eqb, ne_eqb, eqb-true}
use Rattle.std.specs.List.Sorted.{IsPermutation}
use Rattle.std.proofs.lemmas.List.Sums.{sum_by-set, count_by-le-length}
use Rattle.std.proofs.lemmas.List.Sorted.{IsPermutation-refl, length_permutation}
use Rattle.std.proofs.lemmas.List.{get_or_past, get_or-set_same, get_or-set_other, length-set, drop_more, drop_all}
use Rattle.std.proofs.lemmas.Bool.{cases_Bool, cases_eq, cases_lt}
use Rattle.queue.specs.Lines.{First}
use Rattle.heapline.specs.declared.entry.Waiting.{Waiting}
use Rattle.heapline.specs.Ranks.{rank_of_waiting}
use Rattle.heapline.specs.Tallies.{key_of, times_of, code, waits, Tallies}
use Rattle.heapline.proofs.Sums.{key, key_yes, key_no, once_yes, once_no, key_cons, once_cons, absent, present, added_once, added_key, replaced_once, replaced_key, taken_once, taken_had, taken_key}

pub decode : (x : Option ℕ) (k : ℕ) → code x ≡ k + 1 → x ≡ Some k
decode None k e = absurd (omega arith)
decode (Some a) k e = let s : a ≡ k = omega arith in ap {B = Option ℕ} Some s

pub decode_none : (x : Option ℕ) → code x ≡ 0 → x ≡ None
decode_none None e = refl
decode_none (Some a) e = absurd (omega arith)

-- only an item that there is has a key
pub has_inside : (keys : List (Option ℕ)) (i : ℕ) → 0 < code (get_or keys i None) → i < length keys
has_inside keys i h = ⊎_elim (λ lt. lt) (λ le. let z = ap code (get_or_past keys i None le) in absurd (omega arith)) (cases_lt i (length keys))

-- who has no key is not among those that wait
none_there : (ws : List Waiting) (i : ℕ) → key_of ws i ≡ 0 → times_of ws i ≡ 0
none_there [] i h = refl
none_there (w ∷ ws) i h =
    let t = once_cons i w ws in
    let k = key_cons i w ws in
    ⊎_elim (λ e. let y = key_yes i w e in absurd (omega arith)) (λ e. let o = once_no i w e in let r = none_there ws i (omega arith) in omega arith) (cases_Bool (eqb w.item i))

-- who has a key is
entry_of : (ws : List Waiting) (i k : ℕ) (d : Waiting) → times_of ws i ≤ 1 → key_of ws i ≡ k + 1 → (j : ℕ) × (j < length ws) × ((get_or ws j d).item ≡ i) × ((get_or ws j d).key ≡ k)
entry_of [] i k d h e = absurd (omega arith)
entry_of (w ∷ ws) i k d h e =
    let t = once_cons i w ws in
    let c = key_cons i w ws in
    ⊎_elim
    (λ y. let o = once_yes i w y in let n = key_yes i w y in let a = absent i ws (omega arith) in (0, omega arith, eqb-true w.item i y, omega arith))
    (λ y. let o = once_no i w y in let n = key_no i w y in let (j, a, b, f) = entry_of ws i k d (omega arith) (omega arith) in (suc j, omega arith, b, f))
    (cases_Bool (eqb w.item i))

code-set : (keys : List (Option ℕ)) (item : ℕ) (x : Option ℕ) (i : ℕ) → item < length keys → code (get_or (set keys item x) i None) ≡ cond (eqb item i) (code x) (code (get_or keys i None))
code-set keys item x i h = ⊎_elim
    (λ e. ap (λ j. code (get_or (set keys item x) j None)) e ∙ ap code (get_or-set_same keys item x None h) ∙ sym (ap (λ b. cond b (code x) (code (get_or keys i None))) (eq-eqb item i (sym e))))
    (λ ne. ap code (get_or-set_other keys item i x None ne) ∙ sym (ap (λ b. cond b (code x) (code (get_or keys i None))) (ne_eqb item i (λ e. ne (sym e)))))
    (cases_eq i item)

ones : Option ℕ → ℕ
ones x = cond (waits x) 1 0

counts : (keys : List (Option ℕ)) (item : ℕ) (x : Option ℕ) → item < length keys → count_by waits (set keys item x) + ones (get_or keys item None) ≡ count_by waits keys + ones x
unfolding ones
counts keys item x h = sum_by-set (λ o. cond (waits o) 1 0) keys item x None h

ones_none : (x : Option ℕ) → x ≡ None → ones x ≡ 0
unfolding ones
ones_none x e = ap (λ o. cond (waits o) 1 0) e

ones_some : (x : Option ℕ) (k : ℕ) → x ≡ Some k → ones x ≡ 1
unfolding ones
ones_some x k e = ap (λ o. cond (waits o) 1 0) e

module _ (ws : List Waiting) (keys : List (Option ℕ)) (t : Tallies ws keys) where
  -- no more wait than there are items
  pub few_wait : length ws ≤ length keys
  few_wait = omega (arith, t.counted, count_by-le-length waits keys)

  -- and fewer, where one does not
  pub fewer_wait : (item : ℕ) → item < length keys → get_or keys item None ≡ None → length ws < length keys
  fewer_wait item h e =
      let a = counts keys item (Some 0) h in
      let b = ones_none (get_or keys item None) e in
      let c = ones_some (Some 0) 0 refl in
      let d = count_by-le-length waits (set keys item (Some 0)) in
      let f = length-set {A = Option ℕ} keys item (Some 0) in
      let g = t.counted in
      omega arith

  pub absent_row : (item : ℕ) → get_or keys item None ≡ None → times_of ws item ≡ 0
  absent_row item e = none_there ws item (t.tied item ∙ ap code e)

  -- every one that waits is an item
  pub row_inside : (j : ℕ) (d : Waiting) → j < length ws → (get_or ws j d).item < length keys
  row_inside j d l =
      let i = (get_or ws j d).item in
      let same = eq-eqb i i refl in
      let k = present i j ws d (t.single i) l same in
      let y = key_yes i (get_or ws j d) same in
      let e = t.tied i in
      has_inside keys i (omega arith)

  -- and is told from the others by its rank
  pub same_item : (j item key : ℕ) (d : Waiting) → j < length ws → length keys ≤ 65536 → item < 65536 → rank_of_waiting (get_or ws j d) ≡ key * 65536 + item → (get_or ws j d).item ≡ item
  same_item j item key d l few small e = let r = row_inside j d l in omega arith

  -- an item that waits stands in the heap with the rank of its key
  pub rank_there : (item key : ℕ) (d : Waiting) → get_or keys item None ≡ Some key → (j : ℕ) × (j < length ws) × (rank_of_waiting (get_or ws j d) ≡ key * 65536 + item)
  rank_there item key d e = let (j, a, b, c) = entry_of ws item key d (t.single item) (t.tied item ∙ ap code e) in (j, a, omega arith)

  module _ (item key : ℕ) (inside : item < length keys) (new : List Waiting) where
    abbrev w : Waiting
    w = record { key = key; item = item }

    pub tallies_added : get_or keys item None ≡ None → IsPermutation (w ∷ ws) new → Tallies new (set keys item (Some key))
    tallies_added none shuffled =
        let z = absent_row item none in
        record {
          single = added_once ws new w shuffled z t.single;
          tied = λ i. added_key ws new w shuffled z i ∙ ap (λ x. cond (eqb item i) (key + 1) x) (t.tied i) ∙ sym (code-set keys item (Some key) i inside);
          counted =
              let a = counts keys item (Some key) inside in
              let b = ones_none (get_or keys item None) none in
              let c = ones_some (Some key) key refl in
              let g = t.counted in
              let l = length_permutation (w ∷ ws) new shuffled in
              omega arith;
        }

    pub tallies_replaced : (before place : ℕ) → get_or keys item None ≡ Some before → place < length ws → (get_or ws place w).item ≡ item → IsPermutation (set ws place w) new → Tallies new (set keys item (Some key))
    tallies_replaced before place some l same shuffled = record {
      single = replaced_once ws new place w w shuffled l same t.single;
      tied = λ i. replaced_key ws new place w w shuffled l same t.single i ∙ ap (λ x. cond (eqb item i) (key + 1) x) (t.tied i) ∙ sym (code-set keys item (Some key) i inside);
      counted =
          let a = counts keys item (Some key) inside in
          let b = ones_some (get_or keys item None) before some in
          let c = ones_some (Some key) key refl in
          let g = t.counted in
          let l₁ = length_permutation (set ws place w) new shuffled in
          let l₂ = length-set ws place w in
          omega arith;
    }

  module _ (w : Waiting) (new : List Waiting) (shuffled : IsPermutation ws (w ∷ new)) where
    pub took : get_or keys w.item None ≡ Some w.key
    took = decode (get_or keys w.item None) w.key (sym (t.tied w.item) ∙ taken_had ws new w shuffled t.single)

    pub took_inside : w.item < length keys
    took_inside = has_inside keys w.item (let e = ap code took in omega arith)

    pub tallies_taken : Tallies new (set keys w.item None)
    tallies_taken = record {
      single = taken_once ws new w shuffled t.single;
      tied = λ i. taken_key ws new w shuffled t.single i ∙ ap (λ x. cond (eqb w.item i) 0 x) (t.tied i) ∙ sym (code-set keys w.item None i took_inside);
      counted =
          let a = counts keys w.item None took_inside in
          let b = ones_some (get_or keys w.item None) w.key took in
          let c = ones_none None refl in
          let g = t.counted in
          let l = length_permutation ws (w ∷ new) shuffled in
          omega arith;
    }

    pub is_first : length keys ≤ 65536 → ((j : ℕ) (d : Waiting) → j < length ws → rank_of_waiting w ≤ rank_of_waiting (get_or ws j d)) → First keys w.item w.key
    is_first few least = record {
      waits = took;
      least = λ j k e.
          let (at, a, b, c) = entry_of ws j k w (t.single j) (t.tied j ∙ ap code e) in
          let r = least at w a in
          let in₁ = took_inside in
          let in₂ = row_inside at w a in
          omega arith;
      lowest = λ j e.
          let (at, a, b, c) = entry_of ws j w.key w (t.single j) (t.tied j ∙ ap code e) in
          let r = least at w a in
          let in₁ = took_inside in
          let in₂ = row_inside at w a in
          omega arith;
    }

-- where nothing waits, no item has a key
pub none_wait : (keys : List (Option ℕ)) → Tallies [] keys → (i : ℕ) → get_or keys i None ≡ None
none_wait keys t i = decode_none (get_or keys i None) (sym (t.tied i))

-- the first of those that wait is forgotten
pub tallies_forgets : (w : Waiting) (ws : List Waiting) (keys : List (Option ℕ)) → Tallies (w ∷ ws) keys → Tallies ws (set keys w.item None)
tallies_forgets w ws keys t = tallies_taken (w ∷ ws) keys t w ws (IsPermutation-refl (w ∷ ws))

-- those that wait are forgotten one after another; i of them are
module _ (ws : List Waiting) (keys : List (Option ℕ)) (i : ℕ) where
  front : (d : Waiting) → i < length ws → Tallies (drop i ws) keys → Tallies (get_or ws i d ∷ drop (i + 1) ws) keys
  front d l t = subst (λ vs. Tallies vs keys) (drop_more ws i d l) t

  pub forgets_inside : (d : Waiting) → i < length ws → Tallies (drop i ws) keys → (get_or ws i d).item < length keys
  forgets_inside d l t = row_inside (get_or ws i d ∷ drop (i + 1) ws) keys (front d l t) 0 d (omega arith)

  pub forgets_more : (d : Waiting) → i < length ws → Tallies (drop i ws) keys → Tallies (drop (i + 1) ws) (set keys (get_or ws i d).item None)
  forgets_more d l t = tallies_forgets (get_or ws i d) (drop (i + 1) ws) keys (front d l t)

  pub forgets_all : length ws ≤ i → Tallies (drop i ws) keys → Tallies [] keys
  forgets_all l t = subst (λ vs. Tallies vs keys) (drop_all i ws l) t
