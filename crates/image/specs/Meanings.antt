-- What an image means: the timetable and the names of its quays. Assumes nothing.
use Rattle.std.specs.Prelude.{ℕ, ◌+◌, ◌*◌, ◌%◌, List, map, length, Some, count_by, nat_lt}
use Rattle.std.specs.List.{range_with_len, flat_map}
use Rattle.timetable.specs.declared.sailing.Sailing.{Sailing}
use Rattle.timetable.specs.declared.span.Span.{Span}
use Rattle.timetable.specs.Timetables.{Timetable}
use Rattle.image.specs.declared.series.Series.{Series}
use Rattle.image.specs.Records.{quays_of, sailings_of, series_of}

-- how many sailings leave a quay below q
abbrev pub below : ℕ → List Sailing → ℕ
below q xs = count_by (λ s. nat_lt s.from q) xs

-- where sailings stand by quay, those from q stand after those from lower quays
abbrev pub span_for : List Sailing → ℕ → Span
span_for xs q = record { start = below q xs; end = below (q + 1) xs }

-- the timetable of these change times and sailings, which stand by quay
abbrev pub timetable : List ℕ → List Sailing → Timetable
timetable changes xs = record { changes = changes; places = map Some xs; spans = map (span_for xs) (range_with_len 0 (length changes)) }

-- member k of a series
abbrev pub member : Series → ℕ → Sailing
member s k = record { run = s.run + k; leg = s.leg; from = s.from; to = s.to; dep = s.first + k * s.period; arr = (s.first + k * s.period + s.length) % 1440 }

abbrev pub members : Series → List Sailing
members s = map (member s) (range_with_len 0 s.count)

abbrev pub changes_of : List ℕ → List ℕ
changes_of bs = map (λ q. q.change) (quays_of bs)

abbrev pub printed : List ℕ → Timetable
printed bs = timetable (changes_of bs) (sailings_of bs)

-- the members of the series, one series after another
abbrev pub clock_sailings : List ℕ → List Sailing
clock_sailings bs = flat_map members (series_of bs)

abbrev pub clock_face : List ℕ → Timetable
clock_face bs = timetable (changes_of bs) (clock_sailings bs)
