-- The way back along the labels. Assumes nothing.
use Rattle.std.specs.Prelude.{◌≡◌, ℕ, ◌+◌, ◌≤◌, List, [], ◌∷◌, take, drop, Some}
use Rattle.timetable.specs.declared.query.Leg.{Leg}
use Rattle.timetable.specs.Timetables.{Timetable}
use Rattle.journey.specs.Journeys.{after, Leads, Apart}
use Rattle.routing.specs.declared.ride.Ride.{Ride}
use Rattle.routing.specs.declared.trip.Trip.{Trip}
use Rattle.routing.specs.declared.label.Label.{Label}
use Rattle.routing.specs.Labels.{look, ride_of}
use Rattle.routing.specs.Trips.{Makes}
use Rattle.routing.specs.Invariants.{Made}
use Rattle.routing.specs.Turns.{Arrival}

abbrev pub leg_of : ℕ → Ride → Leg
leg_of p ride = record { place = p; leaves = ride.leaves; arrives = ride.arrives }

-- the legs stand at places of depth d + 1, d + 2 and so on
abbrev pub Deeps : List Label → ℕ → List Leg → Type 0
Deeps ls d [] = Unit {0}
Deeps ls d (leg ∷ legs) = ((ride : Ride) × (ride_of (look ls leg.place) ≡ Some ride) × (ride.depth ≡ d + 1)) × Deeps ls (d + 1) legs

-- the legs after the one at place `at` are written, of n that arrive at minute a
pub record Walk (T : Timetable) (q : Trip) (ls : List Label) (legs : List Leg) (n a : ℕ) (at : ℕ) (cur : Ride) : Type 0 where
  pub made : Made T q ls at cur
  pub labelled : ride_of (look ls at) ≡ Some cur
  pub inside : cur.depth ≤ n
  pub leads : Leads T q.extra (after T q.extra cur.sailing cur.arrives) (drop cur.depth (take n legs)) q.to a
  pub deeps : Deeps ls cur.depth (drop cur.depth (take n legs))

-- the first n legs make the trip
pub record Written (T : Timetable) (q : Trip) (new : List Leg) (n a : ℕ) : Type 0 where
  pub makes : Makes T q (take n new) a
  pub apart : Apart (take n new)

-- the labels alone are walked, so what is written is right for whatever timetable and trip they are the labels of
abbrev pub Walks : List Label → ℕ → Ride → List Leg → ℕ → Ride → Type 0
Walks ls last ride legs at cur = (T : Timetable) (q : Trip) → Arrival T q ls last ride → Walk T q ls legs ride.depth ride.arrives at cur

abbrev pub Known : List Label → ℕ → Ride → Type 0
Known ls last ride = (T : Timetable) × (q : Trip) × Arrival T q ls last ride

abbrev pub WrittenFor : List Label → ℕ → Ride → List Leg → Type 0
WrittenFor ls last ride new = (T : Timetable) (q : Trip) → Arrival T q ls last ride → Written T q new ride.depth ride.arrives
