-- All that can be wrong with an image, in no order, and which of it comes first. Assumes nothing.
use Rattle.std.specs.Prelude.{◌≡◌, ℕ, ◌+◌, ◌-◌, ◌*◌, ◌<◌, ◌≤◌, ◌⊎◌, List, length, Err, MatchBool, Result, slice_index}
use Rattle.image.specs.declared.fault.Fault.{Fault}
use Rattle.timetable.specs.declared.refusal.Refusal.TheVariants.{CutOff, NotDue, OutOfLimits, FromFalls, BytesFollow, SeriesLeaves}
use Rattle.image.specs.declared.fault.Part.{Part}
use Rattle.image.specs.declared.fault.Part.TheVariants.{Heading, Quays, Entries, End}
use Rattle.timetable.specs.Refusals.{number_of}
use Rattle.image.specs.Records.{number_at, quays_in, entries_in, quay_start, entry_at}
use Rattle.image.specs.Checks.{fault, from_before, places_to, is_clock}

-- the earlier byte comes first, then the lower number
pub record Before (e g : Fault) : Type 0 where
  pub byte_order : e.byte ≤ g.byte
  pub number_order : e.byte ≡ g.byte → number_of e.refusal ≤ number_of g.refusal

-- a fault that is there where P holds
abbrev pub Is : Fault → Type 0 → Fault → Type 0
Is f P g = P × (g ≡ f)

abbrev pub Not : Type 0 → Type 0
Not P = P → ⊥

abbrev pub FrameWrong : List ℕ → ℕ → ℕ → ℕ → Part → ℕ → Fault → Type 0
FrameWrong bs at long kind p n g =
    Is (fault CutOff p n at) (length bs < at + (2 + long)) g
    ⊎ (Is (fault NotDue p n at) (Not (number_at bs at ≡ long)) g
    ⊎ Is (fault NotDue p n (at + 2)) (Not (number_at bs (at + 2) ≡ kind)) g)

-- one of n rows is wrong
abbrev pub SomeRow : ℕ → (ℕ → Fault → Type 0) → Fault → Type 0
SomeRow n W g = (k : ℕ) × ((k < n) × W k g)

abbrev pub HeadingWrong : List ℕ → ℕ → ℕ → Fault → Type 0
HeadingWrong bs kind most g =
    FrameWrong bs 0 14 kind Heading 0 g
    ⊎ (Is (fault OutOfLimits Heading 0 4) ((quays_in bs < 1) ⊎ (256 < quays_in bs)) g
    ⊎ (Is (fault OutOfLimits Heading 0 6) (most < entries_in bs) g
    ⊎ SomeRow 8 (λ i. Is (fault OutOfLimits Heading 0 (8 + i)) (Not (slice_index bs (8 + i) ≡ 0))) g))

abbrev pub QuayWrong : List ℕ → ℕ → Fault → Type 0
QuayWrong bs row g =
    (FrameWrong bs (quay_start row) 14 3 Quays row g
    ⊎ Is (fault OutOfLimits Quays row (quay_start row + 4)) (1439 < number_at bs (quay_start row + 4)) g)
    ⊎ SomeRow 10 (λ i. Is (fault OutOfLimits Quays row (quay_start row + 6 + i)) ((slice_index bs (quay_start row + 6 + i) < 32) ⊎ (126 < slice_index bs (quay_start row + 6 + i)))) g

-- the quays of an entry
abbrev pub EndsWrong : List ℕ → ℕ → ℕ → ℕ → ℕ → Fault → Type 0
EndsWrong bs quays row at wide g =
    Is (fault OutOfLimits Entries row (at + 8)) (quays ≤ number_at bs (at + 8)) g
    ⊎ (Is (fault FromFalls Entries row (at + 8)) (number_at bs (at + 8) < from_before bs row at wide) g
    ⊎ Is (fault OutOfLimits Entries row (at + 10)) ((quays ≤ number_at bs (at + 10)) ⊎ (number_at bs (at + 10) ≡ number_at bs (at + 8))) g)

abbrev pub SailingWrong : List ℕ → ℕ → ℕ → Fault → Type 0
SailingWrong bs quays row g =
    FrameWrong bs (entry_at 16 quays row) 14 4 Entries row g
    ⊎ (EndsWrong bs quays row (entry_at 16 quays row) 16 g
    ⊎ (Is (fault OutOfLimits Entries row (entry_at 16 quays row + 12)) (1439 < number_at bs (entry_at 16 quays row + 12)) g
    ⊎ Is (fault OutOfLimits Entries row (entry_at 16 quays row + 14)) (1439 < number_at bs (entry_at 16 quays row + 14)) g))

-- the last member leaves the day, or passes the last run, or the places pass the most that there are
abbrev pub SeriesLeaving : ℕ → ℕ → ℕ → ℕ → ℕ → Type 0
SeriesLeaving run first period count before = (1439 < first + (count - 1) * period) ⊎ ((65536 < run + count) ⊎ (3072 < before + count))

abbrev pub RhythmWrong : List ℕ → ℕ → ℕ → Fault → Type 0
RhythmWrong bs row at g =
    Is (fault OutOfLimits Entries row (at + 12)) (1439 < number_at bs (at + 12)) g
    ⊎ Is (fault OutOfLimits Entries row (at + 14)) ((number_at bs (at + 14) < 1) ⊎ (1439 < number_at bs (at + 14))) g

abbrev pub CountsWrong : List ℕ → ℕ → ℕ → ℕ → Fault → Type 0
CountsWrong bs row at before g =
    Is (fault OutOfLimits Entries row (at + 16)) ((number_at bs (at + 16) < 1) ⊎ (1440 < number_at bs (at + 16))) g
    ⊎ (Is (fault SeriesLeaves Entries row (at + 16)) (SeriesLeaving (number_at bs (at + 4)) (number_at bs (at + 12)) (number_at bs (at + 14)) (number_at bs (at + 16)) before) g
    ⊎ Is (fault OutOfLimits Entries row (at + 18)) (1439 < number_at bs (at + 18)) g)

abbrev pub SeriesWrong : List ℕ → ℕ → ℕ → Fault → Type 0
SeriesWrong bs quays row g =
    FrameWrong bs (entry_at 20 quays row) 18 5 Entries row g
    ⊎ (EndsWrong bs quays row (entry_at 20 quays row) 20 g
    ⊎ (RhythmWrong bs row (entry_at 20 quays row) g
    ⊎ CountsWrong bs row (entry_at 20 quays row) (places_to bs quays row) g))

abbrev pub PrintedWrong : List ℕ → Fault → Type 0
PrintedWrong bs g =
    HeadingWrong bs 1 3072 g
    ⊎ (SomeRow (quays_in bs) (QuayWrong bs) g
    ⊎ (SomeRow (entries_in bs) (SailingWrong bs (quays_in bs)) g
    ⊎ Is (fault BytesFollow End 0 (entry_at 16 (quays_in bs) (entries_in bs))) (Not (length bs ≡ entry_at 16 (quays_in bs) (entries_in bs))) g))

abbrev pub ClockWrong : List ℕ → Fault → Type 0
ClockWrong bs g =
    HeadingWrong bs 2 512 g
    ⊎ (SomeRow (quays_in bs) (QuayWrong bs) g
    ⊎ (SomeRow (entries_in bs) (SeriesWrong bs (quays_in bs)) g
    ⊎ Is (fault BytesFollow End 0 (entry_at 20 (quays_in bs) (entries_in bs))) (Not (length bs ≡ entry_at 20 (quays_in bs) (entries_in bs))) g))

abbrev pub Wrong : List ℕ → Fault → Type 0
Wrong bs g = MatchBool (is_clock bs) (ClockWrong bs g) (PrintedWrong bs g)

-- of all that is wrong, e comes first
pub record First (W : Fault → Type 0) (e : Fault) : Type 0 where
  pub wrong : W e
  pub first : (g : Fault) → W g → Before e g

-- a check answers with e exactly where e comes first
abbrev pub Told : {X : Type 0} → Result X Fault → (Fault → Type 0) → Fault → Type 0
Told r W e = (r ≡ Err e → First W e) × (First W e → r ≡ Err e)
