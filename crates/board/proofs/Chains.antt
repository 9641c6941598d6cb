-- Strings of calls, one call longer. Assumes nothing.
use Rattle.std.proofs.Common.{◌≡◌, List, [], ◌∷◌, ◌++◌, sym, refl, ap}
use Rattle.timetable.specs.Timetables.{Timetable}
use Rattle.routing.specs.Route.{Lent}
use Rattle.timetable.specs.declared.call.Call.{Call}
use Rattle.board.specs.declared.calls.Answer.{Answer}
use Rattle.board.specs.History.{event, History, new, ◌then◌, calls_of, answers_of, Passed}
use Rattle.board.specs.States.{State}
use Rattle.board.specs.Kept.{Kept, Carries}
use Rattle.board.specs.Replays.{Replayed}

-- the calls on a board that were answered so, and the state after them
pub record Follows (t : Timetable) (calls : List Call) (answers : List Answer) (first last : Lent) (s : State) : Type 0 where
  pub history : History
  pub asked : calls_of history ≡ calls
  pub answered : answers_of history ≡ answers
  pub passed : Passed first history last
  pub kept : Kept t history s

pub follows_none : (t : Timetable) (answers : List Answer) (first : Lent) (s : State) → Kept t new s → answers ≡ [] → Follows t [] answers first first s
follows_none t answers first s k e = record { history = new; asked = refl; answered = sym e; passed = refl; kept = k }

pub follows_more : (t : Timetable) (calls : List Call) (answers : List Answer) (first given left : Lent) (s after : State) (c : Call) (a : Answer) →
    Follows t calls answers first given s → Carries s (event c a given left) after → Follows t (calls ++ (c ∷ [])) (answers ++ (a ∷ [])) first left after
follows_more t calls answers first given left s after c a f step = record {
  history = f.history then event c a given left;
  asked = ap (λ (cs : List Call). cs ++ (c ∷ [])) f.asked;
  answered = ap (λ (xs : List Answer). xs ++ (a ∷ [])) f.answered;
  passed = (f.passed, refl);
  kept = step t f.history f.kept;
}

pub replayed : (t : Timetable) (calls : List Call) (answers : List Answer) (first last : Lent) (s : State) → Follows t calls answers first last s → Replayed t calls answers first last
replayed t calls answers first last s f = record { history = f.history; asked = f.asked; answered = f.answered; passed = f.passed; right = f.kept.right }
