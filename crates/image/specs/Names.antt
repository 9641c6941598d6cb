-- The names of quays: without trailing spaces. Assumes nothing.
use Rattle.std.specs.Prelude.{◌≡◌, ℕ, zero, suc, ◌<◌, ◌≤◌, cond, List, map, length, take, ◌==◌, ◌≢◌, slice_index}
use Rattle.image.specs.declared.quay.Quay.{Quay}
use Rattle.image.specs.Records.{quays_of}

-- how many of the first n bytes are left without the spaces at their end
abbrev pub letters_left : List ℕ → ℕ → ℕ
letters_left xs zero = 0
letters_left xs (suc n) = cond (slice_index xs n == 32) (letters_left xs n) (suc n)

abbrev pub trimmed : List ℕ → List ℕ
trimmed xs = take (letters_left xs (length xs)) xs

-- what a trimmed name has to be: a front of the name, after which only spaces stand, and which does not end with one
pub record Trims (xs ys : List ℕ) : Type 0 where
  pub front : ys ≡ take (length ys) xs
  pub spaces : (i : ℕ) → length ys ≤ i → i < length xs → slice_index xs i ≡ 32
  pub solid : (i : ℕ) → length ys ≡ suc i → slice_index ys i ≢ 32

abbrev pub names_of : List Quay → List (List ℕ)
names_of quays = map (λ q. trimmed q.name) quays

-- the names of the quays of an image
abbrev pub names_in : List ℕ → List (List ℕ)
names_in bs = names_of (quays_of bs)
