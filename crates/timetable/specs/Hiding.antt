-- A timetable with some of its sailings blank. Assumes nothing.
use Rattle.std.specs.Prelude.{◌≡◌, ℕ, suc, Bool, cond, ◌||◌, List, [], ◌∷◌, Some, None, Option}
use Rattle.timetable.specs.declared.sailing.Sailing.{Sailing}
use Rattle.timetable.specs.Timetables.{Timetable, Lawful, place_at}

-- the content of a place, blank where the test picks its sailing
abbrev pub blanked : (Sailing → Bool) → Option Sailing → Option Sailing
blanked f None = None
blanked f (Some s) = cond (f s) None (Some s)

-- places from number i on, each blank where the test picks its number and sailing
abbrev pub blank_places : (ℕ → Sailing → Bool) → ℕ → List (Option Sailing) → List (Option Sailing)
blank_places f i [] = []
blank_places f i (x ∷ xs) = blanked (f i) x ∷ blank_places f (suc i) xs

-- the timetable with the picked sailings blank, and all else as it was
abbrev pub hide : (ℕ → Sailing → Bool) → Timetable → Timetable
hide f t = record { changes = t.changes; places = blank_places f 0 t.places; spans = t.spans }

-- what is promised of hiding: it blanks just what is picked, keeps a lawful book lawful, and twice is once with either test
pub record HidingLaws : Type 0 where
  pub blanks : (f : ℕ → Sailing → Bool) (t : Timetable) (p : ℕ) → place_at (hide f t) p ≡ blanked (f p) (place_at t p)
  pub keeps_law : (f : ℕ → Sailing → Bool) (t : Timetable) → Lawful t → Lawful (hide f t)
  pub twice : (f g : ℕ → Sailing → Bool) (t : Timetable) → hide f (hide g t) ≡ hide (λ p s. g p s || f p s) t
