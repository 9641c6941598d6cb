-- What a board holds, over any book. Assumes nothing.
use Rattle.std.specs.Prelude.{◌≡◌}
use Rattle.timetable.specs.Timetables.{Timetable}
use Rattle.timetable.specs.Hiding.{hide}
use Rattle.tables.specs.Kept.{kept}
use Rattle.layers.specs.Layers.{Shutting, Withholding}
use Rattle.layers.specs.Notices.{of_withheld, touches_shut}
use Rattle.board.specs.declared.board.Board.{Board}
use Rattle.board.specs.History.{History}
use Rattle.board.specs.Force.{book_in_force}
use Rattle.board.specs.States.{State, standing}
use Rattle.board.specs.Kept.{Kept}

-- where books mean this
abbrev pub state_of : {B : Type 0} → (B → Timetable) → Board B → State
state_of meaning b = record {
  opened = meaning b.thinned.below.below.below;
  runs = kept b.thinned.below.below.rule.runs;
  quays = kept b.thinned.below.rule.quays;
  marks = b.thinned.rule.at;
}

-- what a book under both layers means
abbrev pub layered : {B : Type 0} → (B → Timetable) → Shutting (Withholding B) → Timetable
layered meaning x = hide (touches_shut (kept x.rule.quays)) (hide (of_withheld (kept x.below.rule.runs)) (meaning x.below.below))

-- the book is what stands on a board in this state, and after every history it is the book in force
pub record ShowsForce {B : Type 0} (meaning : B → Timetable) (s : State) (book : Shutting (Withholding B)) : Type 0 where
  pub stands : layered meaning book ≡ standing s
  pub in_force : (t : Timetable) (h : History) → Kept t h s → layered meaning book ≡ book_in_force t h
