-- What a journey is. Assumes nothing.
use Rattle.std.specs.Prelude.{◌≡◌, ℕ, ◌+◌, ◌≤◌, cond, List, [], ◌∷◌, Some, ◌≢◌}
use Rattle.timetable.specs.declared.sailing.Sailing.{Sailing}
use Rattle.timetable.specs.declared.query.Query.{Query}
use Rattle.timetable.specs.declared.query.Leg.{Leg}
use Rattle.timetable.specs.Classes.{class_minutes}
use Rattle.timetable.specs.Timetables.{Timetable, change_at, place_at}
use Rattle.timetable.specs.Times.{length_of, Leaves, continues}

-- the minutes between an arrival with r and a departure with s: none for a barge that sails on, else the change time and what the class of cargo adds
abbrev pub wait : Timetable → ℕ → Sailing → Sailing → ℕ
wait t extra r s = cond (continues s r) 0 (change_at t r.to + extra)

-- where a load stands: the quay, the minute, and from when it may leave with a sailing
pub record Stand : Type 0 where
  pub quay : ℕ
  pub minute : ℕ
  pub due : Sailing → ℕ

-- at the start
abbrev pub start : ℕ → ℕ → Stand
start quay minute = record { quay = quay; minute = minute; due = λ _. minute }

-- after an arrival with r
abbrev pub after : Timetable → ℕ → Sailing → ℕ → Stand
after t extra r minute = record { quay = r.to; minute = minute; due = λ s. minute + wait t extra r s }

-- a leg that can be taken from here: the sailing s of the timetable, on some day
pub record Boards (t : Timetable) (here : Stand) (leg : Leg) (s : Sailing) : Type 0 where
  pub sailing : place_at t leg.place ≡ Some s
  pub quay : s.from ≡ here.quay
  pub leaves : Leaves s leg.leaves
  pub ready : here.due s ≤ leg.leaves
  pub arrives : leg.arrives ≡ leg.leaves + length_of s

-- the legs lead from here to the quay `to`, and arrive at minute a
abbrev pub Leads : Timetable → ℕ → Stand → List Leg → ℕ → ℕ → Type 0
Leads t extra here [] to a = (here.quay ≡ to) × (here.minute ≡ a)
Leads t extra here (leg ∷ legs) to a = (s : Sailing) × Boards t here leg s × Leads t extra (after t extra s leg.arrives) legs to a

-- the legs are a journey for the query, and arrive at minute a
abbrev pub Journey : Timetable → Query → List Leg → ℕ → Type 0
Journey t q legs a = Leads t (class_minutes q.class) (start q.from q.minute) legs q.to a

-- no journey for the query arrives before minute a
abbrev pub Earliest : Timetable → Query → ℕ → Type 0
Earliest t q a = (legs : List Leg) (b : ℕ) → Journey t q legs b → a ≤ b

abbrev pub NoJourney : Timetable → Query → Type 0
NoJourney t q = (legs : List Leg) (a : ℕ) → Journey t q legs a → ⊥

abbrev pub Elsewhere : ℕ → List Leg → Type 0
Elsewhere p [] = Unit {0}
Elsewhere p (leg ∷ legs) = (leg.place ≢ p) × Elsewhere p legs

-- no place occurs twice
abbrev pub Apart : List Leg → Type 0
Apart [] = Unit {0}
Apart (leg ∷ legs) = Elsewhere leg.place legs × Apart legs
