-- What a trip asks for. Assumes nothing.
use Rattle.std.specs.Prelude.{ℕ, ◌≤◌, List}
use Rattle.timetable.specs.declared.query.Query.{Query}
use Rattle.timetable.specs.declared.query.Leg.{Leg}
use Rattle.timetable.specs.Classes.{class_minutes}
use Rattle.timetable.specs.Timetables.{Timetable}
use Rattle.journey.specs.Journeys.{start, Leads}
use Rattle.routing.specs.declared.trip.Trip.{Trip}

-- a query with its class read as minutes
abbrev pub trip_of : Query → Trip
trip_of q = record { from = q.from; to = q.to; minute = q.minute; extra = class_minutes q.class }

-- the legs make the trip, and arrive at minute a: of the trip of a query, they are a journey for it
abbrev pub Makes : Timetable → Trip → List Leg → ℕ → Type 0
Makes T q legs a = Leads T q.extra (start q.from q.minute) legs q.to a

-- no legs make it before minute a
abbrev pub Soonest : Timetable → Trip → ℕ → Type 0
Soonest T q a = (legs : List Leg) (b : ℕ) → Makes T q legs b → a ≤ b

-- none make it at all
abbrev pub Unmade : Timetable → Trip → Type 0
Unmade T q = (legs : List Leg) (a : ℕ) → Makes T q legs a → ⊥
