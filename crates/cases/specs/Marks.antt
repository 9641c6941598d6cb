-- What a thin marks in the worked book. Assumes nothing.
use Rattle.std.specs.Prelude.{◌≡◌, ℕ, Bool, false, List, length, Some, Decides, slice_index_or}
use Rattle.timetable.specs.declared.sailing.Sailing.{Sailing}
use Rattle.timetable.specs.Timetables.{place_at}
use Rattle.tables.specs.Lists.{many}
use Rattle.thinning.specs.Dominance.{Dominated, dominated_in}
use Rattle.cases.specs.Mill.{mill}

-- each mark decides whether the sailing at its place is dominated, and a thin tells as many as are marked
pub record WorkedMarks (marks : List Bool) : Type 0 where
  pub wide : length marks ≡ length (mill 30).places
  pub each : (p : ℕ) (s : Sailing) → place_at (mill 30) p ≡ Some s → Decides (slice_index_or marks p false) (Dominated (mill 30) p s)
  pub told : dominated_in (mill 30) ≡ many (λ p. slice_index_or marks p false) (length marks)
