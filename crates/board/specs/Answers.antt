-- What each call may be answered: the promise over whole runs. Assumes nothing.
use Rattle.std.specs.Prelude.{◌≡◌, length, Option, Result, nat_lt}
use Rattle.timetable.specs.declared.refusal.Refusal.{Refusal}
use Rattle.timetable.specs.Timetables.{Timetable}
use Rattle.thinning.specs.Dominance.{dominated_in}
use Rattle.layers.specs.Notices.{withhold_answer, release_answer, shut_answer, open_answer}
use Rattle.routing.specs.declared.found.Found.{Found}
use Rattle.routing.specs.Route.{Lent, Routed}
use Rattle.timetable.specs.declared.call.Call.{Call}
use Rattle.timetable.specs.declared.call.Call.TheVariants.{Withhold, Release, Shut, Open, Thin, Route}
use Rattle.board.specs.declared.calls.Answer.{Answer}
use Rattle.board.specs.declared.calls.Answer.TheVariants.{Notice, Count, Told}
use Rattle.board.specs.History.{Event, History, new, ◌then◌}
use Rattle.board.specs.Force.{withheld, is_shut, runs_withheld, quays_shut, book_in_force}

-- as many labels and legs are left as were given
pub record SameRows (given left : Lent) : Type 0 where
  pub labels : length left.labels ≡ length given.labels
  pub legs : length left.legs ≡ length given.legs

-- the call may be answered so over the opened book t after these events, where what is lent is given and left so:
-- a notice is accepted, or refused by the first number that fits; a thin tells how many sailings of the book in force are dominated;
-- a route tells an earliest journey of the book in force, or none, or the first cause for refusal; only a route changes what is lent
abbrev pub Answers : Timetable → History → Call → Answer → Lent → Lent → Type 0
Answers t h (Withhold run) a given left = (a ≡ Notice (withhold_answer (withheld h run) (runs_withheld h))) × (left ≡ given)
Answers t h (Release run) a given left = (a ≡ Notice (release_answer (withheld h run))) × (left ≡ given)
Answers t h (Shut quay) a given left = (a ≡ Notice (shut_answer (nat_lt quay (length t.changes)) (is_shut h quay) (quays_shut t h))) × (left ≡ given)
Answers t h (Open quay) a given left = (a ≡ Notice (open_answer (nat_lt quay (length t.changes)) (is_shut h quay))) × (left ≡ given)
Answers t h Thin a given left = (a ≡ Count (dominated_in (book_in_force t h))) × (left ≡ given)
Answers t h (Route q) a given left = (r : Result (Option Found) Refusal) × (a ≡ Told r) × Routed (book_in_force t h) q given left r × SameRows given left

abbrev pub Right : Timetable → History → Event → Type 0
Right t h e = Answers t h e.call e.answer e.given e.left

-- every event was right after the events before it
abbrev pub AllRight : Timetable → History → Type 0
AllRight t new = Unit {0}
AllRight t (h then e) = AllRight t h × Right t h e
