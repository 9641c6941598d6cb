-- What each turn comes to. Assumes nothing.
use Rattle.std.specs.Prelude.{◌≡◌, ℕ, ◌<◌, ◌≤◌, List, length, Some, None, Option, ◌≢◌, slice_set}
use Rattle.timetable.specs.declared.span.Span.{Span}
use Rattle.timetable.specs.Timetables.{Timetable, Lawful}
use Rattle.routing.specs.declared.ride.Ride.{Ride}
use Rattle.routing.specs.declared.trip.Trip.{Trip}
use Rattle.routing.specs.declared.label.Label.{Label}
use Rattle.routing.specs.declared.label.Label.TheVariants.{Waiting, Settled}
use Rattle.routing.specs.Labels.{look, settled, Linked}
use Rattle.routing.specs.Trips.{Soonest, Unmade}
use Rattle.routing.specs.Invariants.{Inv, Closed}
use Rattle.routing.specs.Relaxing.{Fair, Opened}

-- before the first turn
pub record Asked (T : Timetable) (q : Trip) (ls : List Label) (ks : List (Option ℕ)) : Type 0 where
  pub fair : Fair T q
  pub apart : q.from ≡ q.to → ⊥
  pub sized : length ls ≡ length T.places
  pub room : length ls ≤ length ks

-- between two turns
pub record Going (T : Timetable) (q : Trip) (ls : List Label) (ks : List (Option ℕ)) (ps : List (Option Span)) : Type 0 where
  pub floor : ℕ
  pub fair : Fair T q
  pub apart : q.from ≡ q.to → ⊥
  pub sized : length ls ≡ length T.places
  pub linked : Linked ls ks
  pub inv : Inv T q ls floor (settled ls)
  pub closed : Closed T q ls
  pub many : length T.changes ≤ length ps
  pub opened : Opened T q ls ps floor

-- the first of the waiting places is settled
pub record Settles (ls : List Label) (p : ℕ) (ride : Ride) (ms : List Label) (ks : List (Option ℕ)) : Type 0 where
  pub inside : p < length ls
  pub waits : look ls p ≡ Waiting ride
  pub first : (k : ℕ) (other : Ride) → look ls k ≡ Waiting other → ride.arrives ≤ other.arrives
  pub after : ms ≡ slice_set ls p (Settled ride)
  pub linked : Linked ms ks

-- if any waits
abbrev pub SettledFirst : List Label → Option (ℕ × Ride) → List Label → List (Option ℕ) → Type 0
SettledFirst ls None ms ks = (p : ℕ) (ride : Ride) → look ls p ≢ Waiting ride
SettledFirst ls (Some x) ms ks = Settles ls x.0 x.1 ms ks

-- the settled place p ends at the goal, and nothing gets there sooner
pub record Arrival (T : Timetable) (q : Trip) (ls : List Label) (p : ℕ) (ride : Ride) : Type 0 where
  pub floor : ℕ
  pub inv : Inv T q ls floor (settled ls)
  pub sized : length ls ≡ length T.places
  pub lawful : Lawful T
  pub stands : look ls p ≡ Settled ride
  pub to : ride.sailing.to ≡ q.to
  pub soonest : Soonest T q ride.arrives

abbrev pub Explored : Timetable → Trip → Option (ℕ × Ride) → List Label → Type 0
Explored T q None ms = Unmade T q
Explored T q (Some x) ms = Arrival T q ms x.0 x.1
