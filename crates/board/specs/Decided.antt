-- How far an answer is decided by what came before it. Assumes nothing.
use Rattle.std.specs.Prelude.{◌≡◌, length, Some, None, Ok, Err, Option, Result}
use Rattle.timetable.specs.declared.refusal.Refusal.{Refusal}
use Rattle.timetable.specs.Timetables.{Timetable}
use Rattle.routing.specs.declared.found.Found.{Found}
use Rattle.routing.specs.Route.{Lent}
use Rattle.timetable.specs.declared.call.Call.{Call}
use Rattle.board.specs.declared.calls.Answer.{Answer}
use Rattle.board.specs.declared.calls.Answer.TheVariants.{Notice, Count, Told}
use Rattle.board.specs.History.{History, calls_of}
use Rattle.board.specs.Answers.{Answers, AllRight}

-- what a route tells, without the number of legs
abbrev pub legless : Result (Option Found) Refusal → Result (Option Found) Refusal
legless (Err e) = Err e
legless (Ok None) = Ok None
legless (Ok (Some f)) = Ok (Some (record { arrival = f.arrival; legs = 0 }))

abbrev pub decided : Answer → Answer
decided (Notice r) = Notice r
decided (Count n) = Count n
decided (Told r) = Told (legless r)

-- as much room: as many items, labels and legs
pub record SameRoom (x y : Lent) : Type 0 where
  pub items : length x.keys ≡ length y.keys
  pub labels : length x.labels ≡ length y.labels
  pub legs : length x.legs ≡ length y.legs

-- over one opened book, after the same calls and with as much room, two right answers to a call are the same, but for the legs of journeys that are equally early
abbrev pub AnswersDecided : Type 0
AnswersDecided = (t : Timetable) (h k : History) → AllRight t h → AllRight t k → calls_of h ≡ calls_of k →
    (c : Call) (a b : Answer) (given left given' left' : Lent) → SameRoom given given' →
    Answers t h c a given left → Answers t k c b given' left' → decided a ≡ decided b
