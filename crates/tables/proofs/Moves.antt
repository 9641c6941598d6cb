-- A number in a list, and the list without it, in the words of the library. Assumes nothing.
use Rattle.std.proofs.Common.{◌≡◌, ℕ, Bool, true, false, ◌||◌, not, cond, eqb, List, [], ◌∷◌, filter, refl, ◌∙◌, ap₂, arith}
use Rattle.std.specs.List.{list_any}
use Rattle.tables.specs.Lists.{has, without}

eqb_swap : (x y : ℕ) → eqb y x ≡ eqb x y
eqb_swap x y = grind arith

or_cond : (a b : Bool) → (a || b) ≡ cond a true b
or_cond true b = refl
or_cond false b = refl

not_cond : {X : Type 0} (b : Bool) (x y : X) → cond (not b) x y ≡ cond b y x
not_cond true x y = refl
not_cond false x y = refl

pub has_any : (x : ℕ) (xs : List ℕ) → list_any (λ y. eqb y x) xs ≡ has x xs
has_any x [] = refl
has_any x (y ∷ xs) = or_cond (eqb y x) _ ∙ ap₂ (λ (b c : Bool). cond b true c) (eqb_swap x y) (has_any x xs)

pub without_filter : (x : ℕ) (xs : List ℕ) → filter (λ y. not (eqb y x)) xs ≡ without x xs
without_filter x [] = refl
without_filter x (y ∷ xs) =
    not_cond (eqb y x) _ _ ∙ ap₂ (λ (b : Bool) (l : List ℕ). cond b l (y ∷ l)) (eqb_swap x y) (without_filter x xs)
