-- The check of an image, field by field in the order of the bytes, up to the first that is wrong. Assumes nothing.
use Rattle.std.specs.Prelude.{ℕ, zero, suc, ◌+◌, ◌-◌, ◌*◌, Bool, cond, not, ◌&&◌, List, length, Ok, Err, Result, ◌==◌, nat_le, nat_lt, slice_index}
use Rattle.std.specs.Result.{result_and}
use Rattle.image.specs.declared.fault.Fault.{Fault}
use Rattle.timetable.specs.declared.refusal.Refusal.{Refusal}
use Rattle.timetable.specs.declared.refusal.Refusal.TheVariants.{CutOff, NotDue, OutOfLimits, FromFalls, BytesFollow, SeriesLeaves}
use Rattle.image.specs.declared.fault.Kind.{Kind}
use Rattle.image.specs.declared.fault.Kind.TheVariants.{Printed, ClockFace}
use Rattle.image.specs.declared.fault.Part.{Part}
use Rattle.image.specs.declared.fault.Part.TheVariants.{Heading, Quays, Entries, End}
use Rattle.timetable.specs.declared.sailing.Sailing.{Sailing}
use Rattle.image.specs.declared.series.Series.{Series}
use Rattle.image.specs.Records.{number_at, quays_in, entries_in, quay_start, entry_at, sailing_at, series_at}

abbrev pub Check : Type 0
Check = Result (Unit {0}) Fault

abbrev pub unless : Bool → Fault → Check
unless right f = cond right (Ok tt) (Err f)

abbrev pub fault : Refusal → Part → ℕ → ℕ → Fault
fault w p n b = record { refusal = w; byte = b; part = p; row = n }

-- each of n checks in their order, up to the first that fails
abbrev pub up_to : (ℕ → Check) → ℕ → Check
up_to f zero = Ok tt
up_to f (suc n) = result_and (up_to f n) (f n)

-- a record of this length and kind begins at `at`
abbrev pub frame : List ℕ → ℕ → ℕ → ℕ → Part → ℕ → Check
frame bs at long kind p n =
    result_and (unless (nat_le (at + (2 + long)) (length bs)) (fault CutOff p n at))
    (result_and (unless (number_at bs at == long) (fault NotDue p n at))
    (unless (number_at bs (at + 2) == kind) (fault NotDue p n (at + 2))))

abbrev pub zero_byte : List ℕ → ℕ → Check
zero_byte bs i = unless (slice_index bs (8 + i) == 0) (fault OutOfLimits Heading 0 (8 + i))

-- how many quays and entries a book may have
abbrev pub sizes_within : ℕ → ℕ → ℕ → Check
sizes_within most n m = result_and (unless (nat_le 1 n && nat_le n 256) (fault OutOfLimits Heading 0 4)) (unless (nat_le m most) (fault OutOfLimits Heading 0 6))

abbrev pub heading : List ℕ → ℕ → ℕ → Check
heading bs kind most =
    result_and (frame bs 0 14 kind Heading 0)
    (result_and (unless (nat_le 1 (quays_in bs) && nat_le (quays_in bs) 256) (fault OutOfLimits Heading 0 4))
    (result_and (unless (nat_le (entries_in bs) most) (fault OutOfLimits Heading 0 6))
    (up_to (zero_byte bs) 8)))

abbrev pub quay_head : List ℕ → ℕ → Check
quay_head bs row =
    result_and (frame bs (quay_start row) 14 3 Quays row)
    (unless (nat_le (number_at bs (quay_start row + 4)) 1439) (fault OutOfLimits Quays row (quay_start row + 4)))

abbrev pub letter_is : ℕ → ℕ → ℕ → Check
letter_is b row i = unless (nat_le 32 b && nat_le b 126) (fault OutOfLimits Quays row (quay_start row + 6 + i))

abbrev pub name_byte : List ℕ → ℕ → ℕ → Check
name_byte bs row i = letter_is (slice_index bs (quay_start row + 6 + i)) row i

abbrev pub quay : List ℕ → ℕ → Check
quay bs row = result_and (quay_head bs row) (up_to (name_byte bs row) 10)

-- the quay from which the entry before the one at `at` leaves, and 0 at the first
abbrev pub from_before : List ℕ → ℕ → ℕ → ℕ → ℕ
from_before bs row at wide = cond (row == 0) 0 (number_at bs (at + 8 - wide))

-- the quays of an entry, after one that leaves the quay `before`
abbrev pub ends_are : ℕ → ℕ → ℕ → ℕ → Part → ℕ → ℕ → Check
ends_are from to before quays p row at =
    result_and (unless (nat_lt from quays) (fault OutOfLimits p row (at + 8)))
    (result_and (unless (nat_le before from) (fault FromFalls p row (at + 8)))
    (unless (nat_lt to quays && not (to == from)) (fault OutOfLimits p row (at + 10))))

-- the quays of an entry whose record is so wide
abbrev pub ends : List ℕ → ℕ → ℕ → ℕ → ℕ → Check
ends bs quays row at wide = ends_are (number_at bs (at + 8)) (number_at bs (at + 10)) (from_before bs row at wide) quays Entries row at

abbrev pub times_are : Sailing → Part → ℕ → ℕ → Check
times_are s p row at =
    result_and (unless (nat_le s.dep 1439) (fault OutOfLimits p row (at + 12)))
    (unless (nat_le s.arr 1439) (fault OutOfLimits p row (at + 14)))

abbrev pub times : List ℕ → ℕ → ℕ → Check
times bs row at = times_are (sailing_at bs at) Entries row at

abbrev pub sailing : List ℕ → ℕ → ℕ → Check
sailing bs quays row =
    result_and (frame bs (entry_at 16 quays row) 14 4 Entries row)
    (result_and (ends bs quays row (entry_at 16 quays row) 16)
    (times bs row (entry_at 16 quays row)))

abbrev pub rhythm_is : Series → Part → ℕ → ℕ → Check
rhythm_is s p row at =
    result_and (unless (nat_le s.first 1439) (fault OutOfLimits p row (at + 12)))
    (unless (nat_le 1 s.period && nat_le s.period 1439) (fault OutOfLimits p row (at + 14)))

abbrev pub rhythm : List ℕ → ℕ → ℕ → Check
rhythm bs row at = rhythm_is (series_at bs at) Entries row at

-- the last member of a series leaves on the first day, has a run, and has a place
abbrev pub keeps : ℕ → ℕ → ℕ → ℕ → ℕ → Bool
keeps run first period count before =
    nat_le (first + (count - 1) * period) 1439 && (nat_le (run + count) 65536 && nat_le (before + count) 3072)

-- the count and the length of a series, before whose members stand `before` others
abbrev pub counts_are : Series → ℕ → Part → ℕ → ℕ → Check
counts_are s before p row at =
    result_and (unless (nat_le 1 s.count && nat_le s.count 1440) (fault OutOfLimits p row (at + 16)))
    (result_and (unless (keeps s.run s.first s.period s.count before) (fault SeriesLeaves p row (at + 16)))
    (unless (nat_le s.length 1439) (fault OutOfLimits p row (at + 18))))

abbrev pub counts : List ℕ → ℕ → ℕ → ℕ → Check
counts bs row at before = counts_are (series_at bs at) before Entries row at

-- how many places the first n series take
abbrev pub places_to : List ℕ → ℕ → ℕ → ℕ
places_to bs quays zero = 0
places_to bs quays (suc n) = places_to bs quays n + number_at bs (entry_at 20 quays n + 16)

abbrev pub series : List ℕ → ℕ → ℕ → Check
series bs quays row =
    result_and (frame bs (entry_at 20 quays row) 18 5 Entries row)
    (result_and (ends bs quays row (entry_at 20 quays row) 20)
    (result_and (rhythm bs row (entry_at 20 quays row))
    (counts bs row (entry_at 20 quays row) (places_to bs quays row))))

abbrev pub ending : List ℕ → ℕ → Check
ending bs end = unless (length bs == end) (fault BytesFollow End 0 end)

abbrev pub printed_check : List ℕ → Check
printed_check bs =
    result_and (heading bs 1 3072)
    (result_and (up_to (quay bs) (quays_in bs))
    (result_and (up_to (sailing bs (quays_in bs)) (entries_in bs))
    (ending bs (entry_at 16 (quays_in bs) (entries_in bs)))))

abbrev pub clock_check : List ℕ → Check
clock_check bs =
    result_and (heading bs 2 512)
    (result_and (up_to (quay bs) (quays_in bs))
    (result_and (up_to (series bs (quays_in bs)) (entries_in bs))
    (ending bs (entry_at 20 (quays_in bs) (entries_in bs)))))

-- an image of kind 2 is judged as a clock-face image, and any other as a printed one
abbrev pub is_clock : List ℕ → Bool
is_clock bs = nat_le 4 (length bs) && number_at bs 2 == 2

abbrev pub kind_number : Kind → ℕ
kind_number Printed = 1
kind_number ClockFace = 2

abbrev pub most_entries : Kind → ℕ
most_entries Printed = 3072
most_entries ClockFace = 512

-- how wide the record of an entry is
abbrev pub entry_wide : Kind → ℕ
entry_wide Printed = 16
entry_wide ClockFace = 20

abbrev pub entry : Kind → List ℕ → ℕ → ℕ → Check
entry Printed bs quays row = sailing bs quays row
entry ClockFace bs quays row = series bs quays row

-- the same check for both kinds
abbrev pub kind_check : Kind → List ℕ → Check
kind_check k bs =
    result_and (heading bs (kind_number k) (most_entries k))
    (result_and (up_to (quay bs) (quays_in bs))
    (result_and (up_to (entry k bs (quays_in bs)) (entries_in bs))
    (ending bs (entry_at (entry_wide k) (quays_in bs) (entries_in bs)))))

abbrev pub kind_of : List ℕ → Kind
kind_of bs = cond (is_clock bs) ClockFace Printed

abbrev pub image_check : List ℕ → Result Kind Fault
image_check bs = cond (is_clock bs) (result_and (clock_check bs) (Ok ClockFace)) (result_and (printed_check bs) (Ok Printed))
