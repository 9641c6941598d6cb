-- The calls on a board and their answers, one after the other. Assumes nothing.
use Rattle.std.specs.Prelude.{◌≡◌, List, [], ◌∷◌, ◌++◌}
use Rattle.routing.specs.Route.{Lent}
use Rattle.timetable.specs.declared.call.Call.{Call}
use Rattle.board.specs.declared.calls.Answer.{Answer}

-- a call and its answer, and what was lent beside it, as it was given and as it was left
pub record Event : Type 0 where
  pub call : Call
  pub answer : Answer
  pub given : Lent
  pub left : Lent

abbrev pub event : Call → Answer → Lent → Lent → Event
event c a g l = record { call = c; answer = a; given = g; left = l }

-- all events on one board since it was new, the newest last
pub data History : Type 0 where
  new : History
  ◌then◌ : History → Event → History

infixl 20 ◌then◌
abbrev pub calls_of : History → List Call
calls_of new = []
calls_of (h then e) = calls_of h ++ (e.call ∷ [])

abbrev pub answers_of : History → List Answer
answers_of new = []
answers_of (h then e) = answers_of h ++ (e.answer ∷ [])

-- what is lent is `first` at the beginning, goes from each event to the next, and is `last` at the end
abbrev pub Passed : Lent → History → Lent → Type 0
Passed first new last = last ≡ first
Passed first (h then e) last = Passed first h e.given × (last ≡ e.left)
