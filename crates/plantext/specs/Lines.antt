-- What the lines of a plan are read as. Assumes nothing.
use Rattle.std.specs.Prelude.{ℕ, cond, List, length, Ok, Err, Result, ◌==◌, nat_lt, slice_index}
use Rattle.std.specs.Option.{ok_or}
use Rattle.timetable.specs.declared.refusal.Refusal.{Refusal}
use Rattle.timetable.specs.declared.refusal.Refusal.TheVariants.{NoLetter, NoNumber, LongLine}
use Rattle.timetable.specs.declared.query.Query.{Query}
use Rattle.timetable.specs.declared.query.Leg.{Leg}
use Rattle.numerals.specs.declared.field.Field.{Field}
use Rattle.numerals.specs.Numbers.{wide_at}
use Rattle.timetable.specs.declared.call.Call.{Call}
use Rattle.timetable.specs.declared.call.Call.TheVariants.{Withhold, Release, Shut, Open, Thin, Route}
use Rattle.typed.specs.Fields.{number_here, and_then, whole, query_of}

-- a line of at most 64 bytes that begins with this letter
abbrev pub lettered : List ℕ → ℕ → Result (Unit {0}) Refusal
lettered line letter =
    cond (nat_lt 64 (length line)) (Err LongLine)
    (cond (length line == 0) (Err NoLetter)
    (cond (slice_index line 0 == letter) (Ok tt) (Err NoLetter)))

-- the query of a command that asks for a route
abbrev pub query_in : Call → Result Query Refusal
query_in (Withhold run) = Err NoLetter
query_in (Release run) = Err NoLetter
query_in (Shut quay) = Err NoLetter
query_in (Open quay) = Err NoLetter
query_in Thin = Err NoLetter
query_in (Route q) = Ok q

-- Q is byte 81, and L is 76
abbrev pub query_line : List ℕ → Result Query Refusal
query_line line = and_then (lettered line 81) (λ _. query_of line)

abbrev pub wide_here : List ℕ → ℕ → Result (Field ℕ) Refusal
wide_here line at = ok_or (wide_at line at) NoNumber

abbrev pub leg_with : Field ℕ → Field ℕ → Field ℕ → Leg
leg_with place leaves arrives = record { place = place.value; leaves = leaves.value; arrives = arrives.value }

-- the numbers of a leg, and nothing after them
abbrev pub leg_of : List ℕ → Result Leg Refusal
leg_of line =
    and_then (number_here line 1) (λ place. and_then (wide_here line place.next) (λ leaves. and_then (wide_here line leaves.next) (λ arrives.
    whole line arrives.next (leg_with place leaves arrives))))

abbrev pub leg_line : List ℕ → Result Leg Refusal
leg_line line = and_then (lettered line 76) (λ _. leg_of line)
