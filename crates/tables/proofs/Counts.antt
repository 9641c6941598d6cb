-- How many numbers pass a test, one number after the other. Assumes nothing.
use Rattle.std.proofs.Common.{◌≡◌, ℕ, zero, suc, ◌+◌, ◌≤◌, Bool, true, false, cond, refl, ap, ◌∙◌, ap₂, add-one, arith}
use Rattle.std.proofs.lemmas.Bool.{cond-true, cond-false, cond_both}
use Rattle.tables.specs.Lists.{many}

pub many_none : (f : ℕ → Bool) → many f 0 ≡ 0
unfolding many
many_none f = refl

pub many_in : (f : ℕ → Bool) (n : ℕ) → f n ≡ true → many f (n + 1) ≡ many f n + 1
unfolding many
many_in f n h = ap (many f) (add-one n) ∙ cond-true (f n) (suc (many f n)) (many f n) h ∙ omega arith

pub many_out : (f : ℕ → Bool) (n : ℕ) → f n ≡ false → many f (n + 1) ≡ many f n
unfolding many
many_out f n h = ap (many f) (add-one n) ∙ cond-false (f n) (suc (many f n)) (many f n) h

-- tests that pass the same numbers pass as many
pub many_same : (f g : ℕ → Bool) → ((k : ℕ) → f k ≡ g k) → (n : ℕ) → many f n ≡ many g n
unfolding many
many_same f g h zero = refl
many_same f g h (suc n) =
    ap₂ (λ (b : Bool) (m : ℕ). cond b (suc m) m) (h n) (many_same f g h n)

pub many-most : (f : ℕ → Bool) (n : ℕ) → many f n ≤ n
unfolding many
many-most f zero = omega arith
many-most f (suc n) =
    let m = many-most f n in
    cond_both (f n) (suc (many f n)) (many f n) (λ k. k ≤ suc n) (λ _. omega arith) (λ _. omega arith)
