-- Lists of numbers, in the order in which they were accepted, and how many numbers pass a test. Assumes nothing.
use Rattle.std.specs.Prelude.{ℕ, zero, suc, Bool, true, false, cond, List, [], ◌∷◌, ◌==◌}

-- whether x stands in the list
abbrev pub has : ℕ → List ℕ → Bool
has x [] = false
has x (y ∷ ys) = cond (x == y) true (has x ys)

-- the list without x
abbrev pub without : ℕ → List ℕ → List ℕ
without x [] = []
without x (y ∷ ys) = cond (x == y) (without x ys) (y ∷ without x ys)

-- how many numbers below n pass the test
unfoldable pub many : (ℕ → Bool) → ℕ → ℕ
many f zero = 0
many f (suc n) = cond (f n) (suc (many f n)) (many f n)
