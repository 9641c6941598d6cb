-- The answer as it is worked out, step by step. Assumes nothing.
use Rattle.std.specs.Prelude.{ℕ, zero, suc, min, cond, List, ◌++◌, length, drop, Some, None, Ok, Err, Option, Result, ◌==◌, nat_le, nat_lt, slice_index_or}
use Rattle.std.specs.Result.{result_and}
use Rattle.timetable.specs.declared.refusal.Refusal.{Refusal}
use Rattle.timetable.specs.declared.refusal.Refusal.TheVariants.{NoQuay, LateMinute, ShortBuffer}
use Rattle.timetable.specs.declared.sailing.Sailing.{Sailing}
use Rattle.timetable.specs.Refusals.{number_of}
use Rattle.timetable.specs.Times.{next}
use Rattle.timetable.specs.Timetables.{Timetable}
use Rattle.image.specs.declared.fault.Fault.{Fault}
use Rattle.image.specs.declared.fault.Kind.{Kind}
use Rattle.image.specs.declared.fault.Kind.TheVariants.{Printed, ClockFace}
use Rattle.image.specs.Meanings.{printed, clock_face}
use Rattle.console.specs.Answers.{four_bytes}

-- the next departure of what a place holds, if that leaves the quay
abbrev pub departure : Option Sailing → ℕ → ℕ → Option ℕ
departure None q u = None
departure (Some s) q u = cond (s.from == q) (Some (next s u)) None

abbrev pub sooner : Option ℕ → Option ℕ → Option ℕ
sooner None n = n
sooner (Some m) None = Some m
sooner (Some m) (Some n) = Some (min m n)

-- the soonest over the first n places
abbrev pub soonest : List (Option Sailing) → ℕ → ℕ → ℕ → Option ℕ
soonest ps q u zero = None
soonest ps q u (suc n) = sooner (soonest ps q u n) (departure (slice_index_or ps n None) q u)

-- what is asked of the minute and of the room for the answer
abbrev pub call_check : ℕ → ℕ → Result (Unit {0}) Refusal
call_check u room = cond (nat_le u 1439) (cond (nat_le 4 room) (Ok tt) (Err ShortBuffer)) (Err LateMinute)

-- what a timetable tells
abbrev pub told_in : Timetable → ℕ → ℕ → ℕ → Result (Option ℕ) Refusal
told_in t q u room = cond (nat_lt q (length t.changes)) (result_and (call_check u room) (Ok (soonest t.places q u (length t.places)))) (Err NoQuay)

-- what an image tells whose check came out so
abbrev pub told_of : Result Kind Fault → List ℕ → ℕ → ℕ → ℕ → Result (Option ℕ) Refusal
told_of (Err f) bs q u room = Err f.refusal
told_of (Ok Printed) bs q u room = told_in (printed bs) q u room
told_of (Ok ClockFace) bs q u room = told_in (clock_face bs) q u room

abbrev pub code_of : Result (Option ℕ) Refusal → ℕ
code_of (Err e) = number_of e
code_of (Ok None) = 255
code_of (Ok (Some m)) = 0

abbrev pub left_by : Result (Option ℕ) Refusal → List ℕ → List ℕ
left_by (Err e) xs = xs
left_by (Ok None) xs = xs
left_by (Ok (Some m)) xs = four_bytes m ++ drop 4 xs
