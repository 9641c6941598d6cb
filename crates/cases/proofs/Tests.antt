-- Tests that an answer to a query is right, which the checker computes: a plan bounds the arrival from above, a potential from below. Assumes nothing.
use Rattle.std.proofs.Common.{ℕ, zero, suc, ◌+◌, Bool, true, false, not, ◌&&◌, ◌||◌, eqb, leb, List, [], ◌∷◌, length, get_or, Some, None, Option}
use Rattle.timetable.specs.declared.sailing.Sailing.{Sailing}
use Rattle.timetable.specs.declared.query.Query.{Query}
use Rattle.timetable.specs.declared.query.Leg.{Leg}
use Rattle.timetable.specs.Classes.{class_minutes}
use Rattle.timetable.specs.Times.{length_of, next}
use Rattle.timetable.specs.Timetables.{Timetable, place_at}
use Rattle.journey.specs.Journeys.{Stand, start, after}
use Rattle.thinning.specs.Margins.{passes}

-- whether every number below n passes the test
abbrev pub all_below : (ℕ → Bool) → ℕ → Bool
all_below f zero = true
all_below f (suc n) = f n && all_below f n

-- For each place a minute before which no load arrives with its sailing, or none where no load comes aboard.
abbrev pub Potential : Type 0
Potential = List (Option ℕ)

-- a bound, where there is one, is not above the minute; where there is none, nothing is to arrive
abbrev pub is_not_after : Option ℕ → ℕ → Bool
is_not_after None minute = false
is_not_after (Some bound) minute = leb bound minute

-- a load that stands here, and takes the sailing, keeps to the bound
abbrev pub boards : Stand → Option Sailing → Option ℕ → Bool
boards here None bound = true
boards here (Some s) bound = not (eqb s.from here.quay) || is_not_after bound (next s (here.due s) + length_of s)

-- whatever sailing it takes
abbrev pub leaves_by : Timetable → Potential → Stand → Bool
leaves_by t bounds here = all_below (λ p. boards here (place_at t p) (get_or bounds p None)) (length t.places)

-- a load that arrives with the sailing at its bound goes on within the bounds, and is at the goal no earlier than the answer
abbrev pub lands : Timetable → Query → Option ℕ → Potential → Option Sailing → Option ℕ → Bool
lands t q answer bounds None bound = true
lands t q answer bounds (Some r) None = true
lands t q answer bounds (Some r) (Some minute) =
    leaves_by t bounds (after t (class_minutes q.class) r minute) && (not (eqb r.to q.to) || is_not_after answer minute)

abbrev pub lands_at : Timetable → Query → Option ℕ → Potential → ℕ → Bool
lands_at t q answer bounds p = lands t q answer bounds (place_at t p) (get_or bounds p None)

-- a query that stays at its quay has its answer no later than its minute
abbrev pub stays : Query → Option ℕ → Bool
stays q answer = not (eqb q.from q.to) || is_not_after answer q.minute

-- no journey for the query arrives before the answer, by these bounds
abbrev pub no_sooner : Timetable → Query → Option ℕ → Potential → Bool
no_sooner t q answer bounds =
    (stays q answer && leaves_by t bounds (start q.from q.minute)) && all_below (lands_at t q answer bounds) (length t.places)

-- the leg can be taken from here with the sailing s
abbrev pub rides : Stand → Leg → Sailing → Bool
rides here leg s =
    eqb s.from here.quay
    && (eqb leg.leaves (next s leg.leaves) && (leb (here.due s) leg.leaves && eqb leg.arrives (leg.leaves + length_of s)))

-- the legs, one after the other, lead from here to the quay `to`, and arrive at minute a
abbrev pub leads_to : Timetable → ℕ → Stand → List Leg → ℕ → ℕ → Bool
leads_to t extra here [] to a = eqb here.quay to && eqb here.minute a
leads_to t extra here (leg ∷ legs) to a = passes (λ s. rides here leg s && leads_to t extra (after t extra s leg.arrives) legs to a) (place_at t leg.place)

abbrev pub no_legs : List Leg → Bool
no_legs [] = true
no_legs (leg ∷ legs) = false

-- the answer is right for the query: by the plan it is not too early, and by the bounds not too late
abbrev pub holds : Timetable → Query → Option ℕ → List Leg → Potential → Bool
holds t q None legs bounds = no_legs legs && no_sooner t q None bounds
holds t q (Some a) legs bounds = leads_to t (class_minutes q.class) (start q.from q.minute) legs q.to a && no_sooner t q (Some a) bounds
