-- The timetable of an image. Assumes nothing.
use Rattle.std.specs.Prelude.{◌≡◌, ℕ, List, map}
use Rattle.std.specs.List.{flat_map}
use Rattle.timetable.specs.Timetables.{Timetable}
use Rattle.image.specs.declared.quay.Quay.{Quay}
use Rattle.image.specs.Images.{PrintedOf, ClockOf}
use Rattle.image.specs.Meanings.{timetable, members}

abbrev pub change_times : List Quay → List ℕ
change_times quays = map (λ q. q.change) quays

-- the image is allowed, and t is the timetable of the content whose bytes it is
pub data Holds (image : List ℕ) (t : Timetable) : Type 0 where
  printed : (c : PrintedOf image) → t ≡ timetable (change_times c.quays) c.sailings → Holds image t
  clock_face : (c : ClockOf image) → t ≡ timetable (change_times c.quays) (flat_map members c.series) → Holds image t
