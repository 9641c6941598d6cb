-- Lists cut into records. Assumes nothing.
use Rattle.std.proofs.Common.{◌≡◌, ℕ, zero, suc, ◌+◌, ◌*◌, ◌/◌, ◌%◌, ◌<◌, ◌≤◌, List, [], ◌∷◌, ◌++◌, map, length, get_or, drop, sym, ap, ◌∙◌, append_assoc, add-zero, mul-zero, mul-suc, arith, length-append}
use Rattle.std.specs.List.{range_with_len, flat_map, AllByRecursion as All}
use Rattle.std.proofs.lemmas.List.{drop_more, drop-drop, drop_at, get_or-drop}
use Rattle.image.specs.Records.{number_at}
use Rattle.image.specs.Layout.{two}

-- the number that stands at a byte, and what follows it
pub two_then : (bs : List ℕ) (at next v : ℕ) (xs : List ℕ) → ((i : ℕ) → get_or bs i 0 < 256) → next ≡ at + 2 → next ≤ length bs → number_at bs at ≡ v → drop next bs ≡ xs → drop at bs ≡ two v ++ xs
two_then bs at next v xs small n long e rest =
    let a = drop_more bs at 0 (omega arith) in
    let b = drop_more bs (at + 1) 0 (omega arith) in
    let m : at + 1 + 1 ≡ next = omega arith in
    let low : get_or bs at 0 ≡ v % 256 = omega (arith, small at, e) in
    let high : get_or bs (at + 1) 0 ≡ v / 256 = omega (arith, small at, e) in
    let r : drop (at + 1 + 1) bs ≡ xs = ap (λ k. drop k bs) m ∙ rest in
    cc

-- a number read back
pub read : (bs : List ℕ) (at next v : ℕ) (xs : List ℕ) → next ≡ at + 2 → drop at bs ≡ two v ++ xs → (number_at bs at ≡ v) × (drop next bs ≡ xs)
read bs at next v xs n e =
    let a : get_or bs at 0 ≡ v % 256 = ap (λ k. get_or bs k 0) (sym (add-zero at)) ∙ sym (get_or-drop at bs 0 0) ∙ ap (λ l. get_or l 0 0) e in
    let b : get_or bs (at + 1) 0 ≡ v / 256 = sym (get_or-drop at bs 1 0) ∙ ap (λ l. get_or l 1 0) e in
    let d : drop (at + 2) bs ≡ xs = sym (drop-drop 2 at bs) ∙ ap (drop 2) e in
    (omega (arith, a, b), ap (λ k. drop k bs) n ∙ d)

module _ {X : Type 0} (f : X → List ℕ) where
  -- rows that stand one after another
  pub rows_then : (bs : List ℕ) (g : ℕ → X) (at : ℕ → ℕ) (n a : ℕ) → ((i : ℕ) → a ≤ i → i < a + n → drop (at i) bs ≡ f (g i) ++ drop (at (i + 1)) bs) → drop (at a) bs ≡ flat_map f (map g (range_with_len a n)) ++ drop (at (a + n)) bs
  rows_then bs g at zero a h = ap (λ k. drop (at k) bs) (sym (add-zero a))
  rows_then bs g at (suc n) a h =
      let m : a + 1 + n ≡ a + suc n = omega arith in
      let r : drop (at (a + 1)) bs ≡ flat_map f (map g (range_with_len (a + 1) n)) ++ drop (at (a + suc n)) bs =
      rows_then bs g at n (a + 1) (λ i x y. h i (omega arith) (omega arith)) ∙ ap (λ k. flat_map f (map g (range_with_len (a + 1) n)) ++ drop (at k) bs) m in
      h a (omega arith) (omega arith) ∙ ap (λ l. f (g a) ++ l) r ∙ sym (append_assoc (f (g a)) (flat_map f (map g (range_with_len (a + 1) n))) (drop (at (a + suc n)) bs))

  pub length_joined : (w : ℕ) (xs : List X) → All (λ x. length (f x) ≡ w) xs → length (flat_map f xs) ≡ w * length xs
  length_joined w [] h = sym (mul-zero w)
  length_joined w (x ∷ xs) h = omega (arith, length-append (f x) (flat_map f xs), length_joined w xs h.1, h.0, mul-suc w (length xs))

  -- what stands before a row is as long as its rows, and what stands after it follows it
  pub row_in : (w : ℕ) (pre tail : List ℕ) (base : ℕ) (xs : List X) (i : ℕ) (d : X) → length pre ≡ base → All (λ x. length (f x) ≡ w) xs → i < length xs → (rest : List ℕ) × (drop (base + w * i) (pre ++ (flat_map f xs ++ tail)) ≡ f (get_or xs i d) ++ rest)
  row_in w pre tail base [] i d e h l = absurd (omega arith)
  row_in w pre tail base (x ∷ xs) zero d e h l =
      (flat_map f xs ++ tail, ap (λ k. drop k (pre ++ ((f x ++ flat_map f xs) ++ tail))) (omega (arith, mul-zero w)) ∙ drop_at pre ((f x ++ flat_map f xs) ++ tail) base e ∙ append_assoc (f x) (flat_map f xs) tail)
  row_in w pre tail base (x ∷ xs) (suc i) d e h l =
      let r = row_in w (pre ++ f x) tail (base + w) xs i d (omega (arith, length-append pre (f x), h.0)) h.1 (omega arith) in
      let m : base + w * suc i ≡ base + w + w * i = omega (arith, mul-suc w i) in
      let t : pre ++ ((f x ++ flat_map f xs) ++ tail) ≡ (pre ++ f x) ++ (flat_map f xs ++ tail) = simp append_assoc in
      (r.0, ap (λ k. drop k (pre ++ ((f x ++ flat_map f xs) ++ tail))) m ∙ ap (drop (base + w + w * i)) t ∙ r.1)

pub all_rows : {X : Type 0} (P : X → Type 0) (g : ℕ → X) (n a : ℕ) → ((i : ℕ) → a ≤ i → i < a + n → P (g i)) → All P (map g (range_with_len a n))
all_rows P g zero a h = tt
all_rows P g (suc n) a h = (h a (omega arith) (omega arith), all_rows P g n (a + 1) (λ i x y. h i (omega arith) (omega arith)))
