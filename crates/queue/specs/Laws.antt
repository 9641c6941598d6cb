-- The laws of waiting lines. Assumes nothing.
use Rattle.std.specs.Prelude.{◌≡◌, ℕ, List, length, Option}
use Rattle.queue.specs.Lines.{idle, set_in, Takes}

pub record LineLaws : Type 0 where
  -- how many items there are never changes
  pub set_keeps : (ks : List (Option ℕ)) (i key : ℕ) → length (set_in ks i key) ≡ length ks
  pub take_keeps : (ks : List (Option ℕ)) (r : Option (ℕ × ℕ)) (after : List (Option ℕ)) → Takes ks r after → length after ≡ length ks
  pub clear_keeps : (ks : List (Option ℕ)) → length (idle (length ks)) ≡ length ks
  -- one answer only can be given, and one line only be left
  pub take_one : (ks : List (Option ℕ)) (r s : Option (ℕ × ℕ)) (after other : List (Option ℕ)) → Takes ks r after → Takes ks s other → (r ≡ s) × (after ≡ other)
