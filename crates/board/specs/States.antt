-- All that a board holds, and what becomes of it. Assumes nothing.
use Rattle.std.specs.Prelude.{◌≡◌, ℕ, Bool, false, cond, ◌||◌, List, [], ◌∷◌, ◌++◌, length, replicate, is_ok, nat_lt, slice_index_or}
use Rattle.timetable.specs.Timetables.{Timetable}
use Rattle.timetable.specs.Hiding.{hide}
use Rattle.tables.specs.Lists.{has, without}
use Rattle.thinning.specs.Dominance.{mark_of}
use Rattle.thinning.specs.Thinning.{marked}
use Rattle.layers.specs.Notices.{Notice, withhold_answer, release_answer, shut_answer, open_answer, of_withheld, touches_shut}

-- what the opened book means, the runs withheld and the quays shut, in the order in which they were accepted, and a mark for each place
pub record State : Type 0 where
  pub opened : Timetable
  pub runs : List ℕ
  pub quays : List ℕ
  pub marks : List Bool

abbrev pub no_marks : List Bool
no_marks = replicate 3072 false

-- a new board
abbrev pub opening : Timetable → State
opening t = record { opened = t; runs = []; quays = []; marks = no_marks }

-- the book in force: the opened book, with the sailings of these runs and those that touch these quays blank
abbrev pub standing : State → Timetable
standing s = hide (λ p x. of_withheld s.runs p x || touches_shut s.quays p x) s.opened

-- the book that a route reads: the marked sailings are blank too
abbrev pub shown : State → Timetable
shown s = hide (marked s.marks) (standing s)

-- what the notices are answered
abbrev pub on_withhold : State → ℕ → Notice
on_withhold s run = withhold_answer (has run s.runs) (length s.runs)

abbrev pub on_release : State → ℕ → Notice
on_release s run = release_answer (has run s.runs)

abbrev pub on_shut : State → ℕ → Notice
on_shut s quay = shut_answer (nat_lt quay (length s.opened.changes)) (has quay s.quays) (length s.quays)

abbrev pub on_open : State → ℕ → Notice
on_open s quay = open_answer (nat_lt quay (length s.opened.changes)) (has quay s.quays)

-- after a notice: an accepted one leaves these runs and quays and no marks, and a refused one changes nothing
abbrev pub noted : State → Notice → List ℕ → List ℕ → State
noted s a runs quays = cond (is_ok a) (record { opened = s.opened; runs = runs; quays = quays; marks = no_marks }) s

abbrev pub after_withhold : State → ℕ → State
after_withhold s run = noted s (on_withhold s run) (s.runs ++ (run ∷ [])) s.quays

abbrev pub after_release : State → ℕ → State
after_release s run = noted s (on_release s run) (without run s.runs) s.quays

abbrev pub after_shut : State → ℕ → State
after_shut s quay = noted s (on_shut s quay) s.runs (s.quays ++ (quay ∷ []))

abbrev pub after_open : State → ℕ → State
after_open s quay = noted s (on_open s quay) s.runs (without quay s.quays)

-- after a thin: just the dominated sailings of the book in force are marked, and nothing else has changed
pub record AfterThin (s new : State) : Type 0 where
  pub opened : new.opened ≡ s.opened
  pub runs : new.runs ≡ s.runs
  pub quays : new.quays ≡ s.quays
  pub marks : (p : ℕ) → slice_index_or new.marks p false ≡ mark_of (standing s) p
