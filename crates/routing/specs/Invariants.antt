-- What stays true of the labels. Assumes nothing.
use Rattle.std.specs.Prelude.{◌≡◌, ℕ, ◌+◌, ◌*◌, ◌<◌, ◌≤◌, List, length, Some, None, Option, ◌≢◌}
use Rattle.timetable.specs.declared.sailing.Sailing.{Sailing}
use Rattle.timetable.specs.Times.{length_of, next}
use Rattle.timetable.specs.Timetables.{Timetable, place_at}
use Rattle.journey.specs.Journeys.{Stand, start, after, wait}
use Rattle.routing.specs.declared.ride.Ride.{Ride}
use Rattle.routing.specs.declared.trip.Trip.{Trip}
use Rattle.routing.specs.declared.label.Label.{Label}
use Rattle.routing.specs.declared.label.Label.TheVariants.{Unseen, Waiting, Settled}
use Rattle.routing.specs.Labels.{look, ride_of}
use Rattle.routing.specs.Limits.{last_minute, long_leg}

-- labelled, and leaving by minute n
abbrev pub LeavesBy : Label → ℕ → Type 0
LeavesBy Unseen n = ⊥
LeavesBy (Waiting ride) n = ride.leaves ≤ n
LeavesBy (Settled ride) n = ride.leaves ≤ n

-- the sailing is boarded at the start, or after the ride that settled the place `via`
abbrev pub From : Timetable → Trip → List Label → Sailing → Ride → Option ℕ → Type 0
From T q ls s ride None = (s.from ≡ q.from) × (ride.leaves ≡ next s q.minute) × (ride.depth ≡ 1)
From T q ls s ride (Some k) =
    (before : Ride) × (r : Sailing) × (look ls k ≡ Settled before) × (place_at T k ≡ Some r) × (s.from ≡ r.to)
    × (ride.leaves ≡ next s (before.arrives + wait T q.extra r s)) × (ride.depth ≡ before.depth + 1)

-- the ride of place p is one that can be taken
pub record Made (T : Timetable) (q : Trip) (ls : List Label) (p : ℕ) (ride : Ride) : Type 0 where
  pub stands : place_at T p ≡ Some ride.sailing
  pub arrives : ride.arrives ≡ ride.leaves + length_of ride.sailing
  pub bound : ride.arrives ≤ last_minute + long_leg * ride.depth
  pub from : From T q ls ride.sailing ride ride.via

-- floor: no settled place arrives later, and no waiting one earlier. count: how many are settled
pub record Inv (T : Timetable) (q : Trip) (ls : List Label) (floor count : ℕ) : Type 0 where
  pub made : (p : ℕ) (ride : Ride) → ride_of (look ls p) ≡ Some ride → Made T q ls p ride
  pub low : (p : ℕ) (ride : Ride) → look ls p ≡ Settled ride → (ride.arrives ≤ floor) × (ride.depth ≤ count)
  pub high : (p : ℕ) (ride : Ride) → look ls p ≡ Waiting ride → (floor ≤ ride.arrives) × (ride.depth ≤ count + 1)

-- each sailing that leaves from here, at a place from m on and below n, is labelled as early as it can be boarded
abbrev pub Covers : Timetable → List Label → Stand → ℕ → ℕ → Type 0
Covers T ls here m n = (p : ℕ) (s : Sailing) → m ≤ p → p < n → place_at T p ≡ Some s → s.from ≡ here.quay → LeavesBy (look ls p) (next s (here.due s))

-- the start and every settled place are covered, and no settled place ends at the goal
pub record Closed (T : Timetable) (q : Trip) (ls : List Label) : Type 0 where
  pub begun : Covers T ls (start q.from q.minute) 0 (length T.places)
  pub covered : (k : ℕ) (ride : Ride) (r : Sailing) → look ls k ≡ Settled ride → place_at T k ≡ Some r → Covers T ls (after T q.extra r ride.arrives) 0 (length T.places)
  pub away : (k : ℕ) (ride : Ride) (r : Sailing) → look ls k ≡ Settled ride → place_at T k ≡ Some r → r.to ≢ q.to

-- what may become of a place while others are reached: it is not settled, and leaves no later
abbrev pub Betters : Label → Label → Type 0
Betters Unseen l = (ride : Ride) → l ≢ Settled ride
Betters (Waiting ride) l = (new : Ride) × (l ≡ Waiting new) × (new.leaves ≤ ride.leaves)
Betters (Settled ride) l = l ≡ Settled ride

abbrev pub Better : List Label → List Label → Type 0
Better ls ms = (p : ℕ) → Betters (look ls p) (look ms p)

-- a waiting place that arrives by minute a
pub record Sooner (ls : List Label) (a : ℕ) : Type 0 where
  pub place : ℕ
  pub ride : Ride
  pub waits : look ls place ≡ Waiting ride
  pub arrives : ride.arrives ≤ a
