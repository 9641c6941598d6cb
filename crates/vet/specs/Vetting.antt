-- A plan is judged leg by leg. Assumes nothing.
use Rattle.std.specs.Prelude.{ℕ, ◌+◌, cond, List, [], ◌∷◌, length, Some, None, Ok, Err, Option, Result, ◌==◌, nat_le}
use Rattle.timetable.specs.declared.sailing.Sailing.{Sailing}
use Rattle.timetable.specs.declared.query.Query.{Query}
use Rattle.timetable.specs.declared.query.Leg.{Leg}
use Rattle.timetable.specs.declared.refusal.Refusal.{Refusal}
use Rattle.timetable.specs.declared.refusal.Refusal.TheVariants.{NoSailing, WrongMinutes, WrongQuay, TooEarly, EndsElsewhere}
use Rattle.timetable.specs.Queries.{query_cause, unless}
use Rattle.timetable.specs.Classes.{class_minutes}
use Rattle.timetable.specs.Timetables.{Timetable, place_at}
use Rattle.timetable.specs.Times.{length_of, next}
use Rattle.journey.specs.Journeys.{Stand, start, after}
use Rattle.vet.specs.declared.verdict.Verdict.{Verdict}
use Rattle.vet.specs.declared.verdict.Verdict.TheVariants.{Holds, Fails}

-- the sailing with which a leg is taken from here, or the first of its faults
abbrev pub boarded : Stand → Leg → Option Sailing → Result Sailing Refusal
boarded here leg None = Err NoSailing
boarded here leg (Some s) =
    cond (next s leg.leaves == leg.leaves) (cond (leg.arrives == leg.leaves + length_of s)
    (cond (s.from == here.quay)
    (cond (nat_le (here.due s) leg.leaves)
    (Ok s)
    (Err TooEarly))
    (Err WrongQuay))
    (Err WrongMinutes)) (Err WrongMinutes)

abbrev pub judged : Timetable → Stand → Leg → Result Sailing Refusal
judged t here leg = boarded here leg (place_at t leg.place)

-- the verdict on a plan, counted n legs further on
abbrev pub later : ℕ → Verdict → Verdict
later n (Holds a) = Holds a
later n (Fails k e) = Fails (n + k) e

-- on after a leg that is right, and no further after one that is wrong
abbrev pub onward : Result Sailing Refusal → (Sailing → Verdict) → Verdict
onward (Err e) rest = Fails 0 e
onward (Ok s) rest = later 1 (rest s)

-- the verdict on a plan that is to lead from here to a quay
abbrev pub verdict_from : Timetable → ℕ → Stand → List Leg → ℕ → Verdict
verdict_from t extra here [] to = cond (here.quay == to) (Holds here.minute) (Fails 0 EndsElsewhere)
verdict_from t extra here (leg ∷ legs) to = onward (judged t here leg) (λ s. verdict_from t extra (after t extra s leg.arrives) legs to)

abbrev pub verdict_on : Timetable → Query → List Leg → Verdict
verdict_on t q plan = verdict_from t (class_minutes q.class) (start q.from q.minute) plan q.to

-- the answer to a vetting
abbrev pub vetted : Timetable → Query → List Leg → Result Verdict Refusal
vetted t q plan = unless (query_cause q (length t.changes)) (verdict_on t q plan)
