-- What a book answers. Assumes nothing.
use Rattle.std.specs.Prelude.{ℕ, cond, List, length, None, Ok, Err, Option, Result, nat_lt, slice_index_or}
use Rattle.timetable.specs.declared.refusal.Refusal.{Refusal}
use Rattle.timetable.specs.declared.refusal.Refusal.TheVariants.{NoQuay, NoPlace}
use Rattle.timetable.specs.declared.sailing.Sailing.{Sailing}
use Rattle.timetable.specs.declared.span.Span.{Span}
use Rattle.timetable.specs.Timetables.{Timetable, nowhere}

-- what stands in a row of a table, or a refusal where there is no such row
abbrev pub asked : {X : Type 0} → List X → ℕ → X → Refusal → Result X Refusal
asked xs i d e = cond (nat_lt i (length xs)) (Ok (slice_index_or xs i d)) (Err e)

abbrev pub change_of : Timetable → ℕ → Result ℕ Refusal
change_of t q = asked t.changes q 0 NoQuay

abbrev pub place_of : Timetable → ℕ → Result (Option Sailing) Refusal
place_of t p = asked t.places p None NoPlace

abbrev pub span_of : Timetable → ℕ → Result Span Refusal
span_of t q = asked t.spans q nowhere NoQuay
