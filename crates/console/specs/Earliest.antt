-- The earliest departure from a quay. Assumes nothing.
use Rattle.std.specs.Prelude.{◌≡◌, ℕ, ◌≤◌, Some}
use Rattle.timetable.specs.declared.sailing.Sailing.{Sailing}
use Rattle.timetable.specs.Times.{next}
use Rattle.timetable.specs.Timetables.{Timetable, place_at}

-- s is one of the sailings of the timetable, and leaves this quay
pub record From (t : Timetable) (quay : ℕ) (s : Sailing) : Type 0 where
  pub place : ℕ
  pub there : place_at t place ≡ Some s
  pub leaves : s.from ≡ quay

abbrev pub NoneFrom : Timetable → ℕ → Type 0
NoneFrom t quay = (s : Sailing) → From t quay s → ⊥

-- m is the next departure of some sailing from the quay, and not above that of any other
pub record Earliest (t : Timetable) (quay minute m : ℕ) : Type 0 where
  pub sailing : Sailing
  pub from : From t quay sailing
  pub attained : m ≡ next sailing minute
  pub least : (s : Sailing) → From t quay s → m ≤ next s minute
