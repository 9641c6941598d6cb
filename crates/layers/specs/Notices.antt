-- Which notices are accepted, and what they blank. Assumes nothing.
use Rattle.std.specs.Prelude.{ℕ, Bool, cond, ◌||◌, List, Ok, Err, Result, nat_lt}
use Rattle.timetable.specs.declared.sailing.Sailing.{Sailing}
use Rattle.timetable.specs.declared.refusal.Refusal.{Refusal}
use Rattle.timetable.specs.declared.refusal.Refusal.TheVariants.{RunWithheld, RunNotWithheld, RunsFull, QuayShut, QuayNotShut, QuaysFull, NoQuay}
use Rattle.tables.specs.Lists.{has}

-- an accepted notice tells nothing more
abbrev pub Notice : Type 0
Notice = Result (Unit {0}) Refusal

-- the most runs withheld, and the most quays shut, at one time
abbrev pub most_runs : ℕ
most_runs = 64

abbrev pub most_quays : ℕ
most_quays = 32

-- the answer to a withhold, for a run that is withheld or not, where so many are
abbrev pub withhold_answer : Bool → ℕ → Notice
withhold_answer held many = cond held (Err RunWithheld) (cond (nat_lt many most_runs) (Ok tt) (Err RunsFull))

abbrev pub release_answer : Bool → Notice
release_answer held = cond held (Ok tt) (Err RunNotWithheld)

-- the answer to a shut, for a quay that is there or not, shut or not, where so many are
abbrev pub shut_answer : Bool → Bool → ℕ → Notice
shut_answer there held many = cond there (cond held (Err QuayShut) (cond (nat_lt many most_quays) (Ok tt) (Err QuaysFull))) (Err NoQuay)

abbrev pub open_answer : Bool → Bool → Notice
open_answer there held = cond there (cond held (Ok tt) (Err QuayNotShut)) (Err NoQuay)

-- the sailings of withheld runs
abbrev pub of_withheld : List ℕ → ℕ → Sailing → Bool
of_withheld runs place s = has s.run runs

-- the sailings that leave or reach a shut quay
abbrev pub touches_shut : List ℕ → ℕ → Sailing → Bool
touches_shut quays place s = has s.from quays || has s.to quays
