-- What opening makes of bytes: just what an image of the kind holds, and else one nameless quay and no places. Assumes nothing.
use Rattle.std.specs.Prelude.{◌≡◌, ℕ, List, [], ◌∷◌, map}
use Rattle.std.specs.List.{flat_map}
use Rattle.timetable.specs.Timetables.{Timetable}
use Rattle.image.specs.Images.{PrintedOf, ClockOf}
use Rattle.image.specs.Meanings.{timetable, members}
use Rattle.image.specs.Names.{names_of}

abbrev pub no_book : Timetable
no_book = timetable (0 ∷ []) []

pub record OpensPrinted (bs : List ℕ) (t : Timetable) (names : List (List ℕ)) : Type 0 where
  pub held : (c : PrintedOf bs) → t ≡ timetable (map (λ q. q.change) c.quays) c.sailings
  pub named : (c : PrintedOf bs) → names ≡ names_of c.quays
  pub other : (PrintedOf bs → ⊥) → t ≡ no_book
  pub nameless : (PrintedOf bs → ⊥) → names ≡ [] ∷ []

pub record OpensClock (bs : List ℕ) (t : Timetable) (names : List (List ℕ)) : Type 0 where
  pub held : (c : ClockOf bs) → t ≡ timetable (map (λ q. q.change) c.quays) (flat_map members c.series)
  pub named : (c : ClockOf bs) → names ≡ names_of c.quays
  pub other : (ClockOf bs → ⊥) → t ≡ no_book
  pub nameless : (ClockOf bs → ⊥) → names ≡ [] ∷ []

-- the images of one nameless quay with no places, by kind
abbrev pub blank_image : ℕ → List ℕ
blank_image kind = 14 ∷ 0 ∷ kind ∷ 0 ∷ 1 ∷ 0 ∷ 0 ∷ 0 ∷ 0 ∷ 0 ∷ 0 ∷ 0 ∷ 0 ∷ 0 ∷ 0 ∷ 0 ∷ 14 ∷ 0 ∷ 3 ∷ 0 ∷ 0 ∷ 0 ∷ 32 ∷ 32 ∷ 32 ∷ 32 ∷ 32 ∷ 32 ∷ 32 ∷ 32 ∷ 32 ∷ 32 ∷ []
