-- Rows by a number that never falls, and how many of a row stand below. Assumes nothing.
use Rattle.std.proofs.Common.{◌≡◌, ℕ, zero, suc, ◌+◌, ◌<◌, ◌≤◌, cond, ltb, List, [], ◌∷◌, ◌++◌, length, get_or, count_by, refl, ap, ◌∙◌, subst, ⊎_elim, zero-add, arith}
use Rattle.std.specs.List.{flat_map, AllByRecursion as All}
use Rattle.std.proofs.ByRecursion.{All-get_or, All-append, All-weaker}
use Rattle.std.proofs.lemmas.List.Sums.{sum_by-cons}
use Rattle.std.proofs.lemmas.Bool.{lt-ltb, le-ltb, cases_lt}
use Rattle.image.specs.Limits.{Rises}

module _ {X : Type 0} (f : X → ℕ) where
  abbrev pub Sorted : List X → Type 0
  Sorted [] = Unit {0}
  Sorted (x ∷ xs) = All (λ y. f x ≤ f y) xs × Sorted xs

  abbrev pub under : ℕ → List X → ℕ
  under q xs = count_by (λ x. ltb (f x) q) xs

  cons : (q : ℕ) (x : X) (xs : List X) → under q (x ∷ xs) ≡ cond (ltb (f x) q) 1 0 + under q xs
  cons q x xs = sum_by-cons (λ x. cond (ltb (f x) q) 1 0) x xs

  pub sorted_from : (xs : List X) → Rises f xs → Sorted xs
  sorted_from [] h = tt
  sorted_from (x ∷ []) h = (tt, tt)
  sorted_from (x ∷ (y ∷ ys)) h =
      let r = sorted_from (y ∷ ys) (λ i d l. let e : suc i + 1 ≡ suc (i + 1) = omega arith in subst (λ k. f (get_or (y ∷ ys) i d) ≤ f (get_or (x ∷ (y ∷ ys)) k d)) e (h (suc i) d (omega arith))) in
      let a : f x ≤ f y = h 0 x (omega arith) in
      ((a, All-weaker (λ z. f y ≤ f z) (λ z. f x ≤ f z) (λ z b. omega arith) ys r.0), r)

  pub sorted_append : (xs ys : List X) → Sorted xs → Sorted ys → All (λ x. All (λ y. f x ≤ f y) ys) xs → Sorted (xs ++ ys)
  sorted_append [] ys a b h = b
  sorted_append (x ∷ xs) ys a b h = (All-append (λ y. f x ≤ f y) xs ys a.0 h.0, sorted_append xs ys a.1 b h.1)

  pub sorted_same : (v : ℕ) (xs : List X) → All (λ x. f x ≡ v) xs → Sorted xs
  sorted_same v [] h = tt
  sorted_same v (x ∷ xs) h = (All-weaker (λ y. f y ≡ v) (λ y. f x ≤ f y) (λ y e. omega (arith, h.0)) xs h.1, sorted_same v xs h.1)

  cons_in : (q : ℕ) (x : X) (xs : List X) → f x < q → under q (x ∷ xs) ≡ 1 + under q xs
  cons_in q x xs l = cons q x xs ∙ ap (λ b. cond b 1 0 + under q xs) (lt-ltb (f x) q l)

  cons_out : (q : ℕ) (x : X) (xs : List X) → q ≤ f x → under q (x ∷ xs) ≡ under q xs
  cons_out q x xs l = cons q x xs ∙ ap (λ b. cond b 1 0 + under q xs) (le-ltb (f x) q l) ∙ zero-add (under q xs)

  pub under_none : (q : ℕ) (xs : List X) → All (λ y. q ≤ f y) xs → under q xs ≡ 0
  under_none q [] h = refl
  under_none q (x ∷ xs) h = cons_out q x xs h.0 ∙ under_none q xs h.1

  pub under_all : (q : ℕ) (xs : List X) → All (λ y. f y < q) xs → under q xs ≡ length xs
  under_all q [] h = refl
  under_all q (x ∷ xs) h = omega (arith, cons_in q x xs h.0, under_all q xs h.1)

  pub under_le : (q : ℕ) (xs : List X) → under q xs ≤ length xs
  under_le q [] = omega arith
  under_le q (x ∷ xs) = ⊎_elim (λ l. omega (arith, cons_in q x xs l, under_le q xs)) (λ l. omega (arith, cons_out q x xs l, under_le q xs)) (cases_lt (f x) q)

  pub under_more : (q : ℕ) (xs : List X) → under q xs ≤ under (q + 1) xs
  under_more q [] = omega arith
  under_more q (x ∷ xs) =
      ⊎_elim
      (λ l. omega (arith, cons_in q x xs l, cons_in (q + 1) x xs (omega arith), under_more q xs))
      (λ l. ⊎_elim (λ m. omega (arith, cons_out q x xs l, cons_in (q + 1) x xs m, under_more q xs)) (λ m. omega (arith, cons_out q x xs l, cons_out (q + 1) x xs m, under_more q xs)) (cases_lt (f x) (q + 1)))
      (cases_lt (f x) q)

  pub under_upto : (xs : List X) (p : ℕ) (d : X) → Sorted xs → p < length xs → under (f (get_or xs p d)) xs ≤ p
  under_upto [] p d s l = absurd (omega arith)
  under_upto (x ∷ xs) zero d s l = omega (arith, cons_out (f x) x xs (omega arith), under_none (f x) xs s.0)
  under_upto (x ∷ xs) (suc p) d s l =
      let q = f (get_or xs p d) in
      let r = under_upto xs p d s.1 (omega arith) in
      ⊎_elim (λ l. omega (arith, cons_in q x xs l, r)) (λ l. omega (arith, cons_out q x xs l, r)) (cases_lt (f x) q)

  pub under_past : (xs : List X) (p : ℕ) (d : X) → Sorted xs → p < length xs → p < under (f (get_or xs p d) + 1) xs
  under_past [] p d s l = absurd (omega arith)
  under_past (x ∷ xs) zero d s l = omega (arith, cons_in (f x + 1) x xs (omega arith))
  under_past (x ∷ xs) (suc p) d s l =
      let q = f (get_or xs p d) + 1 in
      let r = under_past xs p d s.1 (omega arith) in
      let a = All-get_or (λ y. f x ≤ f y) xs p d (omega arith) s.0 in
      omega (arith, r, cons_in q x xs (omega arith))

  -- the count of a row whose first part stands below and whose rest does not
  pub under_is : (q : ℕ) (xs : List X) (d : X) (lo : ℕ) → lo ≤ length xs → ((k : ℕ) → k < lo → f (get_or xs k d) < q) → ((k : ℕ) → lo ≤ k → k < length xs → q ≤ f (get_or xs k d)) → lo ≡ under q xs
  under_is q [] d lo l a b = omega arith
  under_is q (x ∷ xs) d zero l a b = omega (arith, cons_out q x xs (b 0 (omega arith) (omega arith)), under_is q xs d 0 (omega arith) (λ k i. absurd (omega arith)) (λ k i j. b (suc k) (omega arith) (omega arith)))
  under_is q (x ∷ xs) d (suc lo) l a b = omega (arith, cons_in q x xs (a 0 (omega arith)), under_is q xs d lo (omega arith) (λ k i. a (suc k) (omega arith)) (λ k i j. b (suc k) (omega arith) (omega arith)))

  pub sorted_at : (xs : List X) (d : X) → Sorted xs → (i j : ℕ) → i ≤ j → j < length xs → f (get_or xs i d) ≤ f (get_or xs j d)
  sorted_at [] d s i j h l = absurd (omega arith)
  sorted_at (x ∷ xs) d s zero zero h l = omega arith
  sorted_at (x ∷ xs) d s zero (suc j) h l = All-get_or (λ y. f x ≤ f y) xs j d (omega arith) s.0
  sorted_at (x ∷ xs) d s (suc i) zero h l = absurd (omega arith)
  sorted_at (x ∷ xs) d s (suc i) (suc j) h l = sorted_at xs d s.1 i j (omega arith) (omega arith)

pub all_joined : {X Y : Type 0} (P : Y → Type 0) (Q : X → Type 0) (f : X → List Y) → ((x : X) → Q x → All P (f x)) → (xs : List X) → All Q xs → All P (flat_map f xs)
all_joined P Q f h [] a = tt
all_joined P Q f h (x ∷ xs) a = All-append P (f x) (flat_map f xs) (h x a.0) (all_joined P Q f h xs a.1)
