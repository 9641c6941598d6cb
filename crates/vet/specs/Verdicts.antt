-- What may be said of a plan. Assumes nothing.
use Rattle.std.specs.Prelude.{◌≡◌, ℕ, Bool, true, false, ◌⊎◌, List, [], ◌∷◌, ◌++◌, length, Ok, Err, Decides, Result}
use Rattle.timetable.specs.declared.sailing.Sailing.{Sailing}
use Rattle.timetable.specs.declared.query.Query.{Query}
use Rattle.timetable.specs.declared.query.Leg.{Leg}
use Rattle.timetable.specs.declared.refusal.Refusal.{Refusal}
use Rattle.timetable.specs.declared.refusal.Refusal.TheVariants.{EndsElsewhere}
use Rattle.timetable.specs.Classes.{class_minutes}
use Rattle.timetable.specs.Timetables.{Timetable}
use Rattle.journey.specs.Journeys.{Stand, start, after, Boards, Leads, Journey}
use Rattle.vet.specs.declared.verdict.Verdict.{Verdict}
use Rattle.vet.specs.declared.verdict.Verdict.TheVariants.{Holds, Fails}
use Rattle.timetable.specs.Queries.{Lowest}
use Rattle.vet.specs.Faults.{QueryFault, LegFault}

-- the legs, each of them right, take a load from here to there
abbrev pub Reaches : Timetable → ℕ → Stand → List Leg → Stand → Type 0
Reaches t extra here [] there = here ≡ there
Reaches t extra here (leg ∷ legs) there = (s : Sailing) × Boards t here leg s × Reaches t extra (after t extra s leg.arrives) legs there

-- leg k is the first wrong one: the legs before it are right, and of what is wrong with it, where they lead to, e has the lowest number
pub record WrongAt (t : Timetable) (extra : ℕ) (here : Stand) (plan : List Leg) (k : ℕ) (e : Refusal) : Type 0 where
  pub before : List Leg
  pub leg : Leg
  pub rest : List Leg
  pub parts : plan ≡ before ++ (leg ∷ rest)
  pub count : length before ≡ k
  pub there : Stand
  pub reaches : Reaches t extra here before there
  pub fault : Lowest (LegFault t there leg) e

-- all legs are right, but lead to another quay
pub record Strays (t : Timetable) (extra : ℕ) (here : Stand) (plan : List Leg) (to : ℕ) (k : ℕ) (e : Refusal) : Type 0 where
  pub there : Stand
  pub reaches : Reaches t extra here plan there
  pub elsewhere : there.quay ≡ to → ⊥
  pub count : length plan ≡ k
  pub refusal : e ≡ EndsElsewhere

-- what may be said of a plan that is to lead from here to a quay
abbrev pub FitsFrom : Timetable → ℕ → Stand → List Leg → ℕ → Verdict → Type 0
FitsFrom t extra here plan to (Holds a) = Leads t extra here plan to a
FitsFrom t extra here plan to (Fails k e) = WrongAt t extra here plan k e ⊎ Strays t extra here plan to k e

-- what may be said of a plan for a query: of a journey, its arrival
abbrev pub Fits : Timetable → Query → List Leg → Verdict → Type 0
Fits t q plan (Holds a) = Journey t q plan a
Fits t q plan (Fails k e) = FitsFrom t (class_minutes q.class) (start q.from q.minute) plan q.to (Fails k e)

-- a query that is wrong is refused before the plan is read
abbrev pub Answers : Timetable → Query → List Leg → Result Verdict Refusal → Type 0
Answers t q plan (Err e) = Lowest (QueryFault t q) e
Answers t q plan (Ok v) = ((e : Refusal) → QueryFault t q e → ⊥) × Fits t q plan v

abbrev pub holds : Result Verdict Refusal → Bool
holds (Err e) = false
holds (Ok (Holds a)) = true
holds (Ok (Fails k e)) = false

-- a query that may be asked, and a journey for it
abbrev pub SomeJourney : Timetable → Query → List Leg → Type 0
SomeJourney t q plan = ((e : Refusal) → QueryFault t q e → ⊥) × ((a : ℕ) × Journey t q plan a)

-- the answer is right, no other is, and it says yes exactly for a journey
pub record Vetted (t : Timetable) (q : Query) (plan : List Leg) (r : Result Verdict Refusal) : Type 0 where
  pub right : Answers t q plan r
  pub only : (o : Result Verdict Refusal) → Answers t q plan o → o ≡ r
  pub exact : Decides (holds r) (SomeJourney t q plan)
