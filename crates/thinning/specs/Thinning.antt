-- What thinning promises. Assumes nothing.
use Rattle.std.specs.Prelude.{◌≡◌, ℕ, ◌+◌, ◌≤◌, Bool, true, false, List, Some, Decides, slice_index_or}
use Rattle.timetable.specs.declared.sailing.Sailing.{Sailing}
use Rattle.timetable.specs.declared.query.Query.{Query}
use Rattle.timetable.specs.declared.query.Leg.{Leg}
use Rattle.timetable.specs.Classes.{most}
use Rattle.timetable.specs.Times.{Continues}
use Rattle.timetable.specs.Timetables.{Timetable, change_at, place_at}
use Rattle.timetable.specs.Hiding.{hide}
use Rattle.journey.specs.Journeys.{Journey, Earliest, NoJourney}
use Rattle.thinning.specs.Margins.{margin_before, margin_after}
use Rattle.thinning.specs.Dominance.{Beats, beats, Outranks, outranks, Dominated, dominated}

-- the sailings at marked places
abbrev pub marked : List Bool → ℕ → Sailing → Bool
marked marks p s = slice_index_or marks p false

-- the test picks dominated sailings only
abbrev pub Picks : (ℕ → Sailing → Bool) → Timetable → Type 0
Picks f t = (p : ℕ) (s : Sailing) → place_at t p ≡ Some s → f p s ≡ true → Dominated t p s

-- a journey that arrives by minute a
pub record By (t : Timetable) (q : Query) (a : ℕ) : Type 0 where
  pub legs : List Leg
  pub arrival : ℕ
  pub sooner : arrival ≤ a
  pub journey : Journey t q legs arrival

-- for every journey of t, u has one for the same query that arrives no later; so the earliest arrival and 'none' are those of t
pub record Keeps (t u : Timetable) : Type 0 where
  pub journeys : (q : Query) (legs : List Leg) (a : ℕ) → Journey t q legs a → By u q a
  pub earliest : (q : Query) (a : ℕ) → Earliest u q a → Earliest t q a
  pub none : (q : Query) → NoJourney u q → NoJourney t q

-- the laws of margins: each is the change time and the largest figure of a class where a sailing could be sailed on, else none
pub record MarginLaws (t : Timetable) (s : Sailing) : Type 0 where
  pub before_some : (k : ℕ) (r : Sailing) → place_at t k ≡ Some r → Continues s r → margin_before t s ≡ change_at t s.from + most
  pub before_none : ((k : ℕ) (r : Sailing) → place_at t k ≡ Some r → Continues s r → ⊥) → margin_before t s ≡ 0
  pub after_some : (k : ℕ) (r : Sailing) → place_at t k ≡ Some r → Continues r s → margin_after t s ≡ change_at t s.to + most
  pub after_none : ((k : ℕ) (r : Sailing) → place_at t k ≡ Some r → Continues r s → ⊥) → margin_after t s ≡ 0

-- each test decides what it is named for, and hiding dominated sailings, all or some, keeps every arrival
pub record ThinningLaws : Type 0 where
  pub margins : (t : Timetable) (s : Sailing) → MarginLaws t s
  pub beaten : (t : Timetable) (p : ℕ) (P : Sailing) (q : ℕ) (Q : Sailing) → Decides (beats t p P q Q) (Beats t p P q Q)
  pub outranked : (t : Timetable) (p : ℕ) (P : Sailing) (q : ℕ) (Q : Sailing) → Decides (outranks t p P q Q) (Outranks t p P q Q)
  pub dominance : (t : Timetable) (q : ℕ) (Q : Sailing) → Decides (dominated t q Q) (Dominated t q Q)
  pub keeps : (t : Timetable) (f : ℕ → Sailing → Bool) → Picks f t → Keeps t (hide f t)
