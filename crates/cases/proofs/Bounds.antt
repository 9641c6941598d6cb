-- Bounds for any book and query: the least arrivals with the sailing at each place, made round by round. Nothing is claimed of them, since a test judges them. Assumes nothing.
use Rattle.std.proofs.Common.{ℕ, zero, suc, ◌+◌, min, cond, eqb, List, [], ◌∷◌, length, Some, None, Option}
use Rattle.timetable.specs.declared.sailing.Sailing.{Sailing}
use Rattle.timetable.specs.declared.query.Query.{Query}
use Rattle.timetable.specs.Classes.{class_minutes}
use Rattle.timetable.specs.Times.{length_of, next}
use Rattle.timetable.specs.Timetables.{Timetable}
use Rattle.journey.specs.Journeys.{Stand, start, after}
use Rattle.cases.proofs.Tests.{Potential}

abbrev pub sooner : Option ℕ → Option ℕ → Option ℕ
sooner None y = y
sooner (Some a) None = Some a
sooner (Some a) (Some b) = Some (min a b)

-- the first arrival with the sailing for a load that stands here
abbrev pub reached : Stand → Option Sailing → Option ℕ
reached here None = None
reached here (Some s) = cond (eqb s.from here.quay) (Some (next s (here.due s) + length_of s)) None

-- for a load that has arrived with r
abbrev pub gone_on : Timetable → ℕ → Option Sailing → Option ℕ → Option Sailing → Option ℕ
gone_on t extra None bound s = None
gone_on t extra (Some r) None s = None
gone_on t extra (Some r) (Some minute) s = reached (after t extra r minute) s

-- for one that has arrived with any of the sailings, place by place
abbrev pub soonest : Timetable → ℕ → List (Option Sailing) → Potential → Option Sailing → Option ℕ
soonest t extra [] bounds s = None
soonest t extra (r ∷ rs) [] s = None
soonest t extra (r ∷ rs) (b ∷ bounds) s = sooner (gone_on t extra r b s) (soonest t extra rs bounds s)

abbrev pub round : Timetable → Query → Potential → List (Option Sailing) → Potential
round t q bounds [] = []
round t q bounds (s ∷ ss) = sooner (reached (start q.from q.minute) s) (soonest t (class_minutes q.class) t.places bounds s) ∷ round t q bounds ss

abbrev pub rounds : Timetable → Query → ℕ → Potential
rounds t q zero = []
rounds t q (suc n) = round t q (rounds t q n) t.places

-- no journey needs more legs than there are places
abbrev pub bounds_for : Timetable → Query → Potential
bounds_for t q = rounds t q (length t.places)
