-- What a book of four quays means. Assumes nothing.
use Rattle.std.specs.Prelude.{ℕ, ◌%◌, cond, List, [], ◌∷◌, map, length, take, replicate, Some, None, Option, ◌==◌, nat_lt}
use Rattle.timetable.specs.declared.sailing.Sailing.{Sailing}
use Rattle.timetable.specs.declared.span.Span.{Span}
use Rattle.timetable.specs.Times.{day}
use Rattle.timetable.specs.Timetables.{Timetable}

-- the sailing, where it is within its limits
abbrev pub content_of : Sailing → Option Sailing
content_of s = cond (nat_lt s.from 4) (cond (nat_lt s.to 4) (cond (s.to == s.from) None (cond (nat_lt s.dep day) (cond (nat_lt s.arr day) (Some s) None) None)) None) None

abbrev pub places_of : List Sailing → List (Option Sailing)
places_of sailings = map content_of (take 3072 sailings)

-- all places
abbrev pub whole : ℕ → Span
whole n = record { start = 0; end = n }

abbrev pub meant : ℕ × ℕ × ℕ × ℕ → List Sailing → Timetable
meant c sailings = record {
  changes = c.0 % day ∷ c.1 % day ∷ c.2 % day ∷ c.3 % day ∷ [];
  places = places_of sailings;
  spans = replicate 4 (whole (length (places_of sailings)));
}
