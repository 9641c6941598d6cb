-- Strings of calls on a new board. Assumes nothing.
use Rattle.std.specs.Prelude.{◌≡◌, List}
use Rattle.timetable.specs.Timetables.{Timetable}
use Rattle.routing.specs.Route.{Lent}
use Rattle.timetable.specs.declared.call.Call.{Call}
use Rattle.board.specs.declared.calls.Answer.{Answer}
use Rattle.board.specs.History.{History, calls_of, answers_of, Passed}
use Rattle.board.specs.Answers.{AllRight}

-- these calls on a new board over t were answered so, each rightly, and what was lent went from call to call
pub record Replayed (t : Timetable) (calls : List Call) (answers : List Answer) (first last : Lent) : Type 0 where
  pub history : History
  pub asked : calls_of history ≡ calls
  pub answered : answers_of history ≡ answers
  pub passed : Passed first history last
  pub right : AllRight t history
