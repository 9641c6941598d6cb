-- What a draft keeps of the lines that were read. Assumes nothing.
use Rattle.std.specs.Prelude.{◌≡◌, ℕ, List, [], ◌∷◌, ◌++◌, vec_items}
use Rattle.timetable.specs.declared.sailing.Sailing.{Sailing}
use Rattle.image.specs.declared.quay.Quay.{Quay}
use Rattle.booktext.specs.declared.entry.Entry.{Entry}
use Rattle.booktext.specs.declared.entry.Entry.TheVariants.{Quay as OfQuay, Sailing as OfSailing}
use Rattle.bindbook.specs.declared.lined.Lined.{Lined}
use Rattle.bindbook.specs.declared.draft.Draft.{Draft}

abbrev pub with_quay : List (Lined Quay) → ℕ → Entry → List (Lined Quay)
with_quay xs line (OfQuay q) = xs ++ record { line = line; told = q } ∷ []
with_quay xs line (OfSailing s) = xs

abbrev pub with_sailing : List (Lined Sailing) → ℕ → Entry → List (Lined Sailing)
with_sailing xs line (OfQuay q) = xs
with_sailing xs line (OfSailing s) = xs ++ record { line = line; told = s } ∷ []

-- one draft is another with what a line said
pub record Adds (old : Draft) (line : ℕ) (entry : Entry) (new : Draft) : Type 0 where
  pub quays_kept : vec_items new.quays ≡ with_quay (vec_items old.quays) line entry
  pub sailings_kept : vec_items new.sailings ≡ with_sailing (vec_items old.sailings) line entry
