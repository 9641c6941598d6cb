-- A timetable written out for tests, each quay with the whole row of places as its span. Assumes nothing.
use Rattle.std.specs.Prelude.{ℕ, Bool, true, not, ◌&&◌, List, length, replicate, Some, None, Option, ◌==◌, nat_le, nat_lt}
use Rattle.std.specs.List.{list_all}
use Rattle.timetable.specs.declared.sailing.Sailing.{Sailing}
use Rattle.timetable.specs.Times.{day}
use Rattle.timetable.specs.Timetables.{Timetable}

abbrev pub written : List ℕ → List (Option Sailing) → Timetable
written changes places = record { changes = changes; places = places; spans = replicate (length changes) (record { start = 0; end = length places }) }

-- every change time is within the day
abbrev pub short : List ℕ → Bool
short = list_all (λ x. nat_lt x day)

-- a sailing is within the limits of a book with so many quays
abbrev pub right : ℕ → Sailing → Bool
right quays s = nat_lt s.from quays && (nat_lt s.to quays && (not (s.to == s.from) && (nat_lt s.dep day && nat_lt s.arr day)))

-- so is what stands at a place
abbrev pub right_place : ℕ → Option Sailing → Bool
right_place quays None = true
right_place quays (Some s) = right quays s

abbrev pub all_right : ℕ → List (Option Sailing) → Bool
all_right quays = list_all (right_place quays)

abbrev pub fair : List ℕ → List (Option Sailing) → Bool
fair changes places = nat_le 1 (length changes) && (nat_le (length changes) 256 && (nat_le (length places) 3072 && (short changes && all_right (length changes) places)))
