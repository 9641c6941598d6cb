-- What can be wrong with a query, and with a leg of a plan. Assumes nothing.
use Rattle.std.specs.Prelude.{◌≡◌, ◌+◌, ◌<◌, ◌⊎◌, length, Some, None, ◌≢◌}
use Rattle.timetable.specs.declared.sailing.Sailing.{Sailing}
use Rattle.timetable.specs.declared.query.Query.{Query}
use Rattle.timetable.specs.declared.query.Leg.{Leg}
use Rattle.timetable.specs.declared.refusal.Refusal.{Refusal}
use Rattle.timetable.specs.declared.refusal.Refusal.TheVariants.{NoSailing, WrongMinutes, WrongQuay, TooEarly}
use Rattle.timetable.specs.Queries.{Is, Unfit}
use Rattle.timetable.specs.Timetables.{Timetable, place_at}
use Rattle.timetable.specs.Times.{length_of, Leaves}
use Rattle.journey.specs.Journeys.{Stand}

-- a query from or to no quay of the book, after the last minute of the day, or with no class of cargo
abbrev pub QueryFault : Timetable → Query → Refusal → Type 0
QueryFault t q e = Unfit q (length t.changes) e

-- the place is blank, or there is no such place
abbrev pub NoSailingThere : Timetable → Leg → Type 0
NoSailingThere t leg = place_at t leg.place ≡ None

-- the sailing of the leg's place is one of which P is so
abbrev pub Sails : Timetable → Leg → (Sailing → Type 0) → Type 0
Sails t leg P = (s : Sailing) × (place_at t leg.place ≡ Some s) × P s

-- it leaves at that minute on no day, or does not arrive its length later
abbrev pub MinutesOff : Leg → Sailing → Type 0
MinutesOff leg s = (Leaves s leg.leaves → ⊥) ⊎ (leg.arrives ≢ leg.leaves + length_of s)

-- it leaves another quay than that where the load stands
abbrev pub QuayOff : Stand → Sailing → Type 0
QuayOff here s = s.from ≡ here.quay → ⊥

-- it leaves before the load may
abbrev pub LeavesEarly : Stand → Leg → Sailing → Type 0
LeavesEarly here leg s = leg.leaves < here.due s

-- all that can be wrong with a leg that is to be taken from here
abbrev pub LegFault : Timetable → Stand → Leg → Refusal → Type 0
LegFault t here leg e =
    Is NoSailing (NoSailingThere t leg) e
    ⊎ (Is WrongMinutes (Sails t leg (MinutesOff leg)) e
    ⊎ (Is WrongQuay (Sails t leg (QuayOff here)) e
    ⊎ Is TooEarly (Sails t leg (LeavesEarly here leg)) e))
