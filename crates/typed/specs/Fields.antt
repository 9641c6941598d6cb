-- The numbers after the letter of a line. Assumes nothing.
use Rattle.std.specs.Prelude.{ℕ, cond, List, length, Ok, Err, Result, ◌==◌}
use Rattle.std.specs.Option.{ok_or}
use Rattle.timetable.specs.declared.refusal.Refusal.{Refusal}
use Rattle.timetable.specs.declared.refusal.Refusal.TheVariants.{NoNumber, Surplus}
use Rattle.timetable.specs.declared.query.Query.{Query}
use Rattle.numerals.specs.declared.field.Field.{Field}
use Rattle.numerals.specs.Numbers.{number_at}

abbrev pub number_here : List ℕ → ℕ → Result (Field ℕ) Refusal
number_here line at = ok_or (number_at line at) NoNumber

-- a refusal ends the reading
abbrev pub and_then : {X Y : Type 0} → Result X Refusal → (X → Result Y Refusal) → Result Y Refusal
and_then (Ok x) k = k x
and_then (Err e) k = Err e

-- what was read up to byte `at`, where the line ends there
abbrev pub whole : {X : Type 0} → List ℕ → ℕ → X → Result X Refusal
whole line at x = cond (at == length line) (Ok x) (Err Surplus)

abbrev pub one_of : List ℕ → Result ℕ Refusal
one_of line = and_then (number_here line 1) (λ f. whole line f.next f.value)

abbrev pub query_with : Field ℕ → Field ℕ → Field ℕ → Field ℕ → Query
query_with from to minute class = record { from = from.value; to = to.value; minute = minute.value; class = class.value }

abbrev pub query_of : List ℕ → Result Query Refusal
query_of line =
    and_then (number_here line 1) (λ from. and_then (number_here line from.next) (λ to. and_then (number_here line to.next) (λ minute.
    and_then (number_here line minute.next) (λ class. whole line class.next (query_with from to minute class)))))
