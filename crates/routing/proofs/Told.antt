-- What the search tells. Assumes nothing.
use Rattle.std.proofs.Common.{◌≡◌, ℕ, ◌<◌, ◌≤◌, List, length, drop, Result, sym, refl, ap, inl, inr, ⊎_elim, arith}
use Rattle.std.specs.Result.{result_unwrap_or}
use Rattle.std.proofs.lemmas.Grind.{common_steps}
use Rattle.std.proofs.lemmas.Bool.{cases_lt}
use Rattle.timetable.specs.declared.query.Query.{Query}
use Rattle.timetable.specs.declared.query.Leg.{Leg}
use Rattle.timetable.specs.declared.refusal.Refusal.{Refusal}
use Rattle.timetable.specs.declared.refusal.Refusal.TheVariants.{NoQuay, LateMinute}
use Rattle.timetable.specs.Classes.{class_minutes, minutes_for}
use Rattle.timetable.specs.Queries.{Unfit}
use Rattle.timetable.specs.Times.{day}
use Rattle.timetable.specs.Timetables.{Timetable}
use Rattle.journey.specs.Journeys.{start}
use Rattle.journey.proofs.Follows.{leads_forward}
use Rattle.routing.specs.declared.ride.Ride.{Ride}
use Rattle.routing.specs.declared.trip.Trip.{Trip}
use Rattle.routing.specs.declared.label.Label.{Label}
use Rattle.routing.specs.Labels.{ride_of}
use Rattle.routing.specs.Trips.{trip_of}
use Rattle.routing.specs.Limits.{latest}
use Rattle.routing.specs.Turns.{Arrival}
use Rattle.routing.specs.Walk.{Written}
use Rattle.routing.specs.Route.{Best}
use Rattle.routing.proofs.Steps.{settled_le}

module _ (T : Timetable) (q : Trip) (ls : List Label) (last : ℕ) (ride : Ride) (arrival : Arrival T q ls last ride) where
  pub arrival_depth : ride.depth ≤ length T.places
  arrival_depth = omega (arith, (arrival.inv.low last ride arrival.stands).1, settled_le ls, arrival.sized)

  pub arrival_bound : ride.arrives ≤ latest
  arrival_bound = omega (arith, (arrival.inv.made last ride (ap ride_of arrival.stands)).bound, arrival_depth, arrival.lawful.few_places)

-- what is told of the trip of a query
pub best : (T : Timetable) (q : Query) (ls : List Label) (last : ℕ) (ride : Ride) → Arrival T (trip_of q) ls last ride → (old new : List Leg)
    → Written T (trip_of q) new ride.depth ride.arrives → drop ride.depth new ≡ drop ride.depth old
    → Best T q old new (record { arrival = ride.arrives; legs = ride.depth })
best T q ls last ride arrival old new w rest = record {
  journey = w.makes;
  earliest = arrival.soonest;
  apart = w.apart;
  inside = arrival_depth T (trip_of q) ls last ride arrival;
  bound = arrival_bound T (trip_of q) ls last ride arrival;
  rest = rest;
}

-- the trip that was made of a query
pub trip_is : (q : Query) (minute extra : ℕ) → minute ≡ q.minute → extra ≡ class_minutes q.class
    → ◌≡◌ {A = Trip} (record { from = q.from; to = q.to; minute = minute; extra = extra }) (trip_of q)
trip_is q minute extra e f = λ i. record { from = q.from; to = q.to; minute = e i; extra = f i }

-- who is there already
pub stays : (T : Timetable) (q : Query) (legs : List Leg) (m : ℕ) → m ≡ q.minute → q.minute < day → q.from ≡ q.to → Best T q legs legs (record { arrival = m; legs = 0 })
stays T q legs m m-is small same = record {
  journey = (same, sym m-is);
  earliest = λ others b j. omega (arith, leads_forward T (class_minutes q.class) (start q.from q.minute) others q.to b (λ s. omega arith) j);
  apart = tt;
  inside = omega arith;
  bound = omega arith;
  rest = refl;
}

-- a query with which nothing is wrong
module _ (q : Query) (quays : ℕ) (fit : (e : Refusal) → Unfit q quays e → ⊥) where
  pub fit_from : q.from < quays
  fit_from = ⊎_elim (λ h. h) (λ h. absurd (fit NoQuay (inl (inl h, refl)))) (cases_lt q.from quays)

  pub fit_minute : q.minute < day
  fit_minute = ⊎_elim (λ h. h) (λ h. absurd (fit LateMinute (inr (inl (h, refl))))) (cases_lt q.minute day)

-- the minutes that a class adds, and none where it is told that there is no such class
pub class_read : (c : ℕ) (r : Result ℕ Refusal) (m : ℕ) → r ≡ minutes_for c → m ≡ result_unwrap_or r 0 → m ≡ class_minutes c
unfolding class_minutes
class_read c r m e h = grind (arith, common_steps)
