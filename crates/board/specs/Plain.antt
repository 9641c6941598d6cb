-- The plain board, which is fed the arguments of the calls alone. Assumes nothing.
use Rattle.std.specs.Prelude.{◌≡◌, ℕ, Bool, true, false, cond, ◌&&◌, ◌||◌, List, [], ◌∷◌, length, is_ok, ◌==◌, nat_lt}
use Rattle.timetable.specs.Timetables.{Timetable}
use Rattle.timetable.specs.Hiding.{hide}
use Rattle.tables.specs.Lists.{many}
use Rattle.layers.specs.Notices.{withhold_answer, release_answer, shut_answer, open_answer}
use Rattle.timetable.specs.declared.call.Call.{Call}
use Rattle.timetable.specs.declared.call.Call.TheVariants.{Withhold, Release, Shut, Open, Thin, Route}
use Rattle.board.specs.History.{History, calls_of}
use Rattle.board.specs.Force.{withheld, is_shut, all_runs, book_in_force}
use Rattle.board.specs.Answers.{AllRight}

-- the runs that are withheld, and the quays that are shut
pub record Plain : Type 0 where
  pub held : ℕ → Bool
  pub shut : ℕ → Bool

-- none
abbrev pub clear : Plain
clear = record { held = λ run. false; shut = λ quay. false }

-- a notice that is accepted adds or removes its run or quay, and no other call changes them
abbrev pub fed : Timetable → Plain → Call → Plain
fed t b (Withhold run) = record { held = λ x. cond (x == run && is_ok (withhold_answer (b.held run) (many b.held all_runs))) true (b.held x); shut = b.shut }
fed t b (Release run) = record { held = λ x. cond (x == run && is_ok (release_answer (b.held run))) false (b.held x); shut = b.shut }
fed t b (Shut quay) = record { held = b.held; shut = λ x. cond (x == quay && is_ok (shut_answer (nat_lt quay (length t.changes)) (b.shut quay) (many b.shut (length t.changes)))) true (b.shut x) }
fed t b (Open quay) = record { held = b.held; shut = λ x. cond (x == quay && is_ok (open_answer (nat_lt quay (length t.changes)) (b.shut quay))) false (b.shut x) }
fed t b Thin = b
fed t b (Route q) = b

abbrev pub fed_all : Timetable → Plain → List Call → Plain
fed_all t b [] = b
fed_all t b (c ∷ cs) = fed_all t (fed t b c) cs

-- what the plain board keeps is what the history says
pub record Agrees (t : Timetable) (h : History) (b : Plain) : Type 0 where
  pub runs : (run : ℕ) → withheld h run ≡ b.held run
  pub quays : (quay : ℕ) → is_shut h quay ≡ b.shut quay
  pub in_force : book_in_force t h ≡ hide (λ p s. b.held s.run || (b.shut s.from || b.shut s.to)) t

-- after every history of right answers
abbrev pub PlainAgrees : Type 0
PlainAgrees = (t : Timetable) (h : History) → AllRight t h → Agrees t h (fed_all t clear (calls_of h))
