-- What a route tells. Assumes nothing.
use Rattle.std.specs.Prelude.{◌≡◌, ℕ, ◌≤◌, cond, List, length, take, drop, Some, None, Ok, Err, Option, Result, nat_le}
use Rattle.timetable.specs.declared.query.Query.{Query}
use Rattle.timetable.specs.declared.query.Leg.{Leg}
use Rattle.timetable.specs.declared.refusal.Refusal.{Refusal}
use Rattle.timetable.specs.declared.refusal.Refusal.TheVariants.{ShortBuffer, SmallLine}
use Rattle.timetable.specs.Queries.{query_cause}
use Rattle.timetable.specs.Timetables.{Timetable}
use Rattle.journey.specs.Journeys.{Journey, Earliest, NoJourney, Apart}
use Rattle.routing.specs.declared.found.Found.{Found}
use Rattle.routing.specs.declared.label.Label.{Label}
use Rattle.routing.specs.declared.room.Room.{Room}
use Rattle.routing.specs.Limits.{latest}

-- the first cause for refusal, if any, at these numbers of places, labels, legs and items
abbrev pub room_cause : ℕ → ℕ → ℕ → ℕ → Option Refusal
room_cause places labels legs items =
    cond (nat_le places labels) (cond (nat_le places legs)
    (cond (nat_le places items)
    None
    (Some SmallLine))
    (Some ShortBuffer)) (Some ShortBuffer)

-- the first of two causes, where there is one
abbrev pub first_of : Option Refusal → Option Refusal → Option Refusal
first_of None next = next
first_of (Some e) next = Some e

-- the first cause for refusal, if any, at these numbers of quays and places, labels, legs and items: what is wrong with the query comes first
abbrev pub cause_of : Query → ℕ → ℕ → ℕ → ℕ → ℕ → Option Refusal
cause_of q quays places labels legs items = first_of (query_cause q quays) (room_cause places labels legs items)

-- what a caller lends to a route: the keys of a line, the labels and the legs
pub record Lent : Type 0 where
  pub keys : List (Option ℕ)
  pub labels : List Label
  pub legs : List Leg

abbrev pub lent : List (Option ℕ) → List Label → List Leg → Lent
lent keys labels legs = record { keys = keys; labels = labels; legs = legs }

-- what stands in a room
abbrev pub lent_in : {L : Type 0} → (L → List (Option ℕ)) → Room L → Lent
lent_in keys room = lent (keys room.line.now) room.labels.now room.legs.now

-- a room lends the same memory as before, with as many rows
pub record SameRoom {L : Type 0} (old new : Room L) : Type 0 where
  pub line : new.line.ghost_name ≡ old.line.ghost_name
  pub labels : new.labels.ghost_name ≡ old.labels.ghost_name
  pub legs : new.legs.ghost_name ≡ old.legs.ghost_name
  pub many_labels : length new.labels.now ≡ length old.labels.now
  pub many_legs : length new.legs.now ≡ length old.legs.now

-- the first cause for refusal over this timetable, with what is lent
abbrev pub cause_in : Timetable → Query → Lent → Option Refusal
cause_in T q given = cause_of q (length T.changes) (length T.places) (length given.labels) (length given.legs) (length given.keys)

-- the first rows of the legs are an earliest journey, and the other rows are as they were
pub record Best (T : Timetable) (q : Query) (old new : List Leg) (f : Found) : Type 0 where
  pub journey : Journey T q (take f.legs new) f.arrival
  pub earliest : Earliest T q f.arrival
  pub apart : Apart (take f.legs new)
  pub inside : f.legs ≤ length T.places
  pub bound : f.arrival ≤ latest
  pub rest : drop f.legs new ≡ drop f.legs old

-- none is told exactly where there is no journey, and leaves the legs as they were
abbrev pub Tells : Timetable → Query → List Leg → List Leg → Option Found → Type 0
Tells T q old new None = NoJourney T q × (new ≡ old)
Tells T q old new (Some f) = Best T q old new f

-- what a route may tell, given and leaving what is lent so: a refusal leaves all as it was
abbrev pub Routed : Timetable → Query → Lent → Lent → Result (Option Found) Refusal → Type 0
Routed T q given left (Err e) = (cause_in T q given ≡ Some e) × (left ≡ given)
Routed T q given left (Ok found) = (cause_in T q given ≡ None) × Tells T q given.legs left.legs found
