-- Where the records of an image stand, and what they hold. Assumes nothing.
use Rattle.std.specs.Prelude.{ℕ, ◌+◌, ◌*◌, List, map, take, drop, slice_index}
use Rattle.std.specs.List.{range_with_len}
use Rattle.timetable.specs.declared.sailing.Sailing.{Sailing}
use Rattle.image.specs.declared.quay.Quay.{Quay}
use Rattle.image.specs.declared.series.Series.{Series}

-- the two-byte number at a byte, the low byte first
abbrev pub number_at : List ℕ → ℕ → ℕ
number_at bs at = slice_index bs at + slice_index bs (at + 1) * 256

abbrev pub quays_in : List ℕ → ℕ
quays_in bs = number_at bs 4

abbrev pub entries_in : List ℕ → ℕ
entries_in bs = number_at bs 6

-- where the record of a quay begins: the heading and each quay take 16 bytes
abbrev pub quay_start : ℕ → ℕ
quay_start row = 16 * (1 + row)

-- where the record of an entry begins, where each is so wide
abbrev pub entry_at : ℕ → ℕ → ℕ → ℕ
entry_at wide quays row = 16 * (1 + quays) + wide * row

abbrev pub quay_read : List ℕ → ℕ → Quay
quay_read bs at = record { change = number_at bs (at + 4); name = take 10 (drop (at + 6) bs) }

abbrev pub quay_at : List ℕ → ℕ → Quay
quay_at bs q = quay_read bs (quay_start q)

abbrev pub sailing_at : List ℕ → ℕ → Sailing
sailing_at bs at = record { run = number_at bs (at + 4); leg = number_at bs (at + 6); from = number_at bs (at + 8); to = number_at bs (at + 10); dep = number_at bs (at + 12); arr = number_at bs (at + 14) }

abbrev pub series_at : List ℕ → ℕ → Series
series_at bs at = record { run = number_at bs (at + 4); leg = number_at bs (at + 6); from = number_at bs (at + 8); to = number_at bs (at + 10); first = number_at bs (at + 12); period = number_at bs (at + 14); count = number_at bs (at + 16); length = number_at bs (at + 18) }

abbrev pub quays_of : List ℕ → List Quay
quays_of bs = map (quay_at bs) (range_with_len 0 (quays_in bs))

abbrev pub sailings_of : List ℕ → List Sailing
sailings_of bs = map (λ p. sailing_at bs (entry_at 16 (quays_in bs) p)) (range_with_len 0 (entries_in bs))

abbrev pub series_of : List ℕ → List Series
series_of bs = map (λ p. series_at bs (entry_at 20 (quays_in bs) p)) (range_with_len 0 (entries_in bs))
