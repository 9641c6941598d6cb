-- Lists of numbers that hold what a test says. Assumes nothing.
use Rattle.std.proofs.Common.{◌≡◌, ℕ, zero, suc, ◌<◌, ◌≤◌, Bool, true, false, cond, eqb, List, [], ◌∷◌, ◌++◌, length, sym, refl, ap, ◌∙◌, subst, ap₂, ⊎_elim, arith}
use Rattle.std.proofs.lemmas.Bool.{true≢false, false≢true, cases_Bool, cases_lt, cond-true, cond-false, eqb-true, eqb-false, eq-eqb, ne_eqb}
use Rattle.tables.specs.Lists.{has, without, many}
use Rattle.tables.proofs.Counts.{many_same}
use Rattle.board.specs.Kept.{Distinct, Lists}

has_push : (x y : ℕ) (xs : List ℕ) → has x (xs ++ (y ∷ [])) ≡ cond (eqb x y) true (has x xs)
has_push x y [] = refl
has_push x y (z ∷ xs) =
    ap (λ b. cond (eqb x z) true b) (has_push x y xs)
    ∙ (elim (eqb x z) as (λ b. cond b true (cond (eqb x y) true (has x xs)) ≡ cond (eqb x y) true (cond b true (has x xs)))
    [ true ↦ (elim (eqb x y) as (λ d. true ≡ cond d true true) [ true ↦ refl | false ↦ refl ]) | false ↦ refl ])

-- the same test twice
has-without : (x y : ℕ) (xs : List ℕ) → has x (without y xs) ≡ cond (eqb x y) false (has x xs)
has-without x y [] = elim (eqb x y) as (λ d. false ≡ cond d false false) [ true ↦ refl | false ↦ refl ]
has-without x y (z ∷ xs) = ⊎_elim
    (λ (e : eqb y z ≡ true).
    let s : y ≡ z = eqb-true y z e in
    ap (has x) (cond-true (eqb y z) (without y xs) (z ∷ without y xs) e) ∙ has-without x y xs
    ∙ subst (λ (w : ℕ). cond (eqb x y) false (has x xs) ≡ cond (eqb x y) false (cond (eqb x w) true (has x xs))) s
    (elim (eqb x y) as (λ b. cond b false (has x xs) ≡ cond b false (cond b true (has x xs))) [ true ↦ refl | false ↦ refl ]))
    (λ (e : eqb y z ≡ false).
    ap (has x) (cond-false (eqb y z) (without y xs) (z ∷ without y xs) e)
    ∙ ap (λ b. cond (eqb x z) true b) (has-without x y xs)
    ∙ ⊎_elim
    (λ (f : eqb x y ≡ true).
    let n : eqb x z ≡ false = subst (λ (w : ℕ). eqb w z ≡ false) (sym (eqb-true x y f)) e in
    cond-false _ _ _ n ∙ cond-true _ _ _ f ∙ sym (cond-true _ _ _ f))
    (λ (f : eqb x y ≡ false). ap (λ b. cond (eqb x z) true b) (cond-false _ _ _ f) ∙ sym (cond-false _ _ _ f))
    (cases_Bool (eqb x y)))
    (cases_Bool (eqb y z))

distinct_push : (x : ℕ) (xs : List ℕ) → has x xs ≡ false → Distinct xs → Distinct (xs ++ (x ∷ []))
distinct_push x [] h d = (refl, tt)
distinct_push x (y ∷ xs) h d =
    let n : eqb x y ≡ false = ⊎_elim (λ (e : eqb x y ≡ true). absurd (true≢false (sym (cond-true (eqb x y) true (has x xs) e) ∙ h))) (λ (e : eqb x y ≡ false). e) (cases_Bool (eqb x y)) in
    let m : eqb y x ≡ false = ne_eqb y x (λ e. eqb-false x y n (sym e)) in
    (has_push y x xs ∙ cond-false _ _ _ m ∙ d.0, distinct_push x xs (sym (cond-false (eqb x y) true (has x xs) n) ∙ h) d.1)

distinct_without : (x : ℕ) (xs : List ℕ) → Distinct xs → Distinct (without x xs)
distinct_without x [] d = tt
distinct_without x (y ∷ xs) d = go (eqb x y) (distinct_without x xs d.1)
  where
    go : (b : Bool) → Distinct (without x xs) → Distinct (cond b (without x xs) (y ∷ without x xs))
    go true r = r
    go false r = (has-without y x xs ∙ ap (λ b. cond (eqb y x) false b) d.0 ∙ (elim (eqb y x) as (λ b. cond b false false ≡ false) [ true ↦ refl | false ↦ refl ]), r)

many_below : (f g : ℕ → Bool) (n : ℕ) → ((x : ℕ) → x < n → f x ≡ g x) → many f n ≡ many g n
unfolding many
many_below f g zero h = refl
many_below f g (suc n) h = ap₂ (λ (b : Bool) (m : ℕ). cond b (suc m) m) (h n (omega arith)) (many_below f g n (λ x k. h x (omega arith)))

pub many_false : (n : ℕ) → many (λ x. false) n ≡ 0
unfolding many
many_false zero = refl
many_false (suc n) = many_false n

-- one more
many-one : (f : ℕ → Bool) (y n : ℕ) → y < n → f y ≡ false → many (λ x. cond (eqb x y) true (f x)) n ≡ suc (many f n)
unfolding many
many-one f y zero k e = absurd (omega arith)
many-one f y (suc n) k e = ⊎_elim
    (λ (lt : y < n).
    let ne : eqb n y ≡ false = ne_eqb n y (λ q. omega (arith, q, lt)) in
    let i = many-one f y n lt e in
    ap₂ (λ (b : Bool) (m : ℕ). cond b (suc m) m) (cond-false (eqb n y) true (f n) ne) i
    ∙ (elim (f n) as (λ b. cond b (suc (suc (many f n))) (suc (many f n)) ≡ suc (cond b (suc (many f n)) (many f n))) [ true ↦ refl | false ↦ refl ]))
    (λ (le : n ≤ y).
    let is : n ≡ y = omega arith in
    let g : ℕ → Bool = λ x. cond (eqb x y) true (f x) in
    let rest : many g n ≡ many f n = many_below g f n (λ x h. cond-false (eqb x y) true (f x) (ne_eqb x y (λ q. omega (arith, q, h, le)))) in
    ap₂ (λ (b : Bool) (m : ℕ). cond b (suc m) m) (cond-true (eqb n y) true (f n) (eq-eqb n y is)) rest
    ∙ ap suc (sym (cond-false (f n) (suc (many f n)) (many f n) (ap f is ∙ e))))
    (cases_lt y n)

length-many : (xs : List ℕ) (n : ℕ) → Distinct xs → ((x : ℕ) → has x xs ≡ true → x < n) → length xs ≡ many (λ x. has x xs) n
length-many [] n d b = sym (many_false n)
length-many (y ∷ xs) n d b =
    let i = length-many xs n d.1 (λ x e. b x (later x e)) in
    ap suc i ∙ sym (many-one (λ x. has x xs) y n (b y (cond-true (eqb y y) true (has y xs) (eq-eqb y y refl))) d.0)
  where
    later : (x : ℕ) → has x xs ≡ true → cond (eqb x y) true (has x xs) ≡ true
    later x e = elim (eqb x y) as (λ c. cond c true (has x xs) ≡ true) [ true ↦ refl | false ↦ e ]

module _ (test : ℕ → Bool) (n : ℕ) (xs : List ℕ) (l : Lists test n xs) where
  -- how many they are
  pub lists_many : length xs ≡ many test n
  lists_many = length-many xs n l.distinct l.below ∙ many_same (λ x. has x xs) test l.has_is n

  pub lists_same : (now : ℕ → Bool) → ((x : ℕ) → now x ≡ test x) → Lists now n xs
  lists_same now h = record { has_is = λ x. l.has_is x ∙ sym (h x); distinct = l.distinct; below = l.below }

  pub lists_push : (y : ℕ) → y < n → has y xs ≡ false → (now : ℕ → Bool) → ((x : ℕ) → now x ≡ cond (eqb x y) true (test x)) → Lists now n (xs ++ (y ∷ []))
  lists_push y k none now h = record {
    has_is = λ x. has_push x y xs ∙ ap (λ b. cond (eqb x y) true b) (l.has_is x) ∙ sym (h x);
    distinct = distinct_push y xs none l.distinct;
    below = λ x e. ⊎_elim
        (λ (s : eqb x y ≡ true). let q = eqb-true x y s in omega (arith, q, k))
        (λ (s : eqb x y ≡ false). l.below x (sym (has_push x y xs ∙ cond-false (eqb x y) true (has x xs) s) ∙ e))
        (cases_Bool (eqb x y));
  }

  pub lists_without : (y : ℕ) (now : ℕ → Bool) → ((x : ℕ) → now x ≡ cond (eqb x y) false (test x)) → Lists now n (without y xs)
  lists_without y now h = record {
    has_is = λ x. has-without x y xs ∙ ap (λ b. cond (eqb x y) false b) (l.has_is x) ∙ sym (h x);
    distinct = distinct_without y xs l.distinct;
    below = λ x e. ⊎_elim
        (λ (s : eqb x y ≡ true). absurd (false≢true (sym (has-without x y xs ∙ cond-true (eqb x y) false (has x xs) s) ∙ e)))
        (λ (s : eqb x y ≡ false). l.below x (sym (has-without x y xs ∙ cond-false (eqb x y) false (has x xs) s) ∙ e))
        (cases_Bool (eqb x y));
  }

pub lists_none : (n : ℕ) → Lists (λ x. false) n []
lists_none n = record { has_is = λ x. refl; distinct = tt; below = λ x e. absurd (false≢true e) }
