-- The laws of journeys. Assumes nothing.
use Rattle.std.specs.Prelude.{◌≡◌, ℕ, ◌≤◌, Bool, List, [], ◌∷◌, ◌++◌}
use Rattle.timetable.specs.declared.sailing.Sailing.{Sailing}
use Rattle.timetable.specs.declared.query.Query.{Query}
use Rattle.timetable.specs.declared.query.Leg.{Leg}
use Rattle.timetable.specs.Timetables.{Timetable}
use Rattle.timetable.specs.Hiding.{hide}
use Rattle.journey.specs.Journeys.{Journey}

pub record JourneyLaws : Type 0 where
  -- the empty list is a journey exactly where the query stays at its quay, and arrives at its minute
  pub empty : (t : Timetable) (q : Query) (a : ℕ) → Journey t q [] a → (q.from ≡ q.to) × (a ≡ q.minute)
  pub stays : (t : Timetable) (q : Query) → q.from ≡ q.to → Journey t q [] q.minute
  -- any other arrives when its last leg does
  pub last : (t : Timetable) (q : Query) (legs : List Leg) (leg : Leg) (a : ℕ) → Journey t q (legs ++ (leg ∷ [])) a → a ≡ leg.arrives
  -- none arrives before it begins
  pub forward : (t : Timetable) (q : Query) (legs : List Leg) (a : ℕ) → Journey t q legs a → q.minute ≤ a
  -- a journey has one arrival
  pub single : (t : Timetable) (q : Query) (legs : List Leg) (a b : ℕ) → Journey t q legs a → Journey t q legs b → a ≡ b
  -- a journey among some of the sailings is one among all of them
  pub below : (f : ℕ → Sailing → Bool) (t : Timetable) (q : Query) (legs : List Leg) (a : ℕ) → Journey (hide f t) q legs a → Journey t q legs a
