-- The limits of what a book may hold. Assumes nothing.
use Rattle.std.specs.Prelude.{◌≡◌, ℕ, ◌+◌, ◌*◌, ◌<◌, ◌≤◌, List, length, sum_by, slice_index, slice_index_or}
use Rattle.std.specs.List.{AllByRecursion}
use Rattle.timetable.specs.declared.sailing.Sailing.{Sailing}
use Rattle.image.specs.declared.quay.Quay.{Quay}
use Rattle.image.specs.declared.series.Series.{Series}

pub record QuayKept (q : Quay) : Type 0 where
  pub change_day : q.change ≤ 1439
  pub ten : length q.name ≡ 10
  pub letters_kept : (i : ℕ) → i < 10 → (32 ≤ slice_index q.name i) × (slice_index q.name i ≤ 126)

-- a sailing in a book with this many quays
pub record SailingKept (quays : ℕ) (s : Sailing) : Type 0 where
  pub run_number : s.run ≤ 65535
  pub leg_number : s.leg ≤ 65535
  pub from_quay : s.from < quays
  pub to_quay : s.to < quays
  pub apart : s.to ≡ s.from → ⊥
  pub dep_day : s.dep ≤ 1439
  pub arr_day : s.arr ≤ 1439

pub record SeriesKept (quays : ℕ) (s : Series) : Type 0 where
  pub leg_number : s.leg ≤ 65535
  pub from_quay : s.from < quays
  pub to_quay : s.to < quays
  pub apart : s.to ≡ s.from → ⊥
  pub first_day : s.first ≤ 1439
  pub some_period : 1 ≤ s.period
  pub period_day : s.period ≤ 1439
  pub some_count : 1 ≤ s.count
  pub count_day : s.count ≤ 1440
  -- no member leaves the day or passes the last run
  pub members_kept : (k : ℕ) → k < s.count → (s.first + k * s.period ≤ 1439) × (s.run + k ≤ 65535)
  pub length_day : s.length ≤ 1439

-- a number never falls from one of a row to the next
abbrev pub Rises : {X : Type 0} → (X → ℕ) → List X → Type 0
Rises {X} f xs = (i : ℕ) (d : X) → i + 1 < length xs → f (slice_index_or xs i d) ≤ f (slice_index_or xs (i + 1) d)

pub record QuaysKept (quays : List Quay) : Type 0 where
  pub some_quay : 1 ≤ length quays
  pub few_quays : length quays ≤ 256
  pub quay_kept : AllByRecursion QuayKept quays

pub record PrintedKept (quays : List Quay) (sailings : List Sailing) : Type 0 where
  pub quays_kept : QuaysKept quays
  pub few_sailings : length sailings ≤ 3072
  pub sailing_kept : AllByRecursion (SailingKept (length quays)) sailings
  pub from_rises : Rises (λ s. s.from) sailings

pub record ClockKept (quays : List Quay) (series : List Series) : Type 0 where
  pub quays_kept : QuaysKept quays
  pub few_series : length series ≤ 512
  pub series_kept : AllByRecursion (SeriesKept (length quays)) series
  pub from_rises : Rises (λ s. s.from) series
  -- the members of all series are as many places
  pub few_places : sum_by (λ s. s.count) series ≤ 3072
