-- What a board keeps true of its history. Assumes nothing.
use Rattle.std.specs.Prelude.{◌≡◌, ℕ, ◌<◌, Bool, true, false, List, [], ◌∷◌, length}
use Rattle.timetable.specs.Timetables.{Timetable}
use Rattle.tables.specs.Lists.{has}
use Rattle.thinning.specs.Thinning.{marked, Picks}
use Rattle.routing.specs.Route.{Lent}
use Rattle.timetable.specs.declared.call.Call.{Call}
use Rattle.board.specs.declared.calls.Answer.{Answer}
use Rattle.board.specs.History.{Event, event, History, ◌then◌}
use Rattle.board.specs.Force.{withheld, is_shut, all_runs, book_in_force}
use Rattle.board.specs.Answers.{AllRight}
use Rattle.board.specs.States.{State, standing}

-- no number stands twice
abbrev pub Distinct : List ℕ → Type 0
Distinct [] = Unit {0}
Distinct (x ∷ xs) = (has x xs ≡ false) × Distinct xs

-- the list holds the numbers that pass the test, each once and below n, and no others
pub record Lists (test : ℕ → Bool) (n : ℕ) (xs : List ℕ) : Type 0 where
  pub has_is : (x : ℕ) → has x xs ≡ test x
  pub distinct : Distinct xs
  pub below : (x : ℕ) → has x xs ≡ true → x < n

-- a board over the opened book t after these events: each was right, what it blanks is what is out of force, and what it marks is dominated in the book in force
pub record Kept (t : Timetable) (h : History) (s : State) : Type 0 where
  pub opened : s.opened ≡ t
  pub right : AllRight t h
  pub in_force : standing s ≡ book_in_force t h
  pub runs : Lists (withheld h) all_runs s.runs
  pub quays : Lists (is_shut h) (length t.changes) s.quays
  pub marks : Picks (marked s.marks) (book_in_force t h)

-- the event carries what is kept on, over every opened book and from every history to the one that is longer by this event
abbrev pub Carries : State → Event → State → Type 0
Carries s e new = (t : Timetable) (h : History) → Kept t h s → Kept t (h then e) new

-- so does a call to which nothing is lent, whatever is lent beside it
abbrev pub CarriesOn : State → Call → Answer → State → Type 0
CarriesOn s c a new = (beside : Lent) → Carries s (event c a beside beside) new
