-- What a book means. Assumes nothing.
use Rattle.std.specs.Prelude.{◌≡◌, ℕ, ◌<◌, ◌≤◌, List, length, Some, None, Option, slice_index, slice_index_or}
use Rattle.timetable.specs.declared.sailing.Sailing.{Sailing}
use Rattle.timetable.specs.declared.span.Span.{Span}
use Rattle.timetable.specs.Times.{day}

-- the change time of each quay, the row of places, each with a sailing or blank, and the span of each quay
pub record Timetable : Type 0 where
  pub changes : List ℕ
  pub places : List (Option Sailing)
  pub spans : List Span

abbrev pub change_at : Timetable → ℕ → ℕ
change_at t q = slice_index t.changes q

abbrev pub place_at : Timetable → ℕ → Option Sailing
place_at t p = slice_index_or t.places p None

abbrev pub nowhere : Span
nowhere = record { start = 0; end = 0 }

abbrev pub span_at : Timetable → ℕ → Span
span_at t q = slice_index_or t.spans q nowhere

-- a sailing within the limits of a book with this many quays
pub record Within (quays : ℕ) (s : Sailing) : Type 0 where
  pub from_quay : s.from < quays
  pub to_quay : s.to < quays
  pub apart : s.to ≡ s.from → ⊥
  pub dep_day : s.dep < day
  pub arr_day : s.arr < day

-- the limits of a book, and that each sailing stands within the span of the quay that it leaves
pub record Lawful (t : Timetable) : Type 0 where
  pub some_quay : 1 ≤ length t.changes
  pub few_quays : length t.changes ≤ 256
  pub few_places : length t.places ≤ 3072
  pub as_many_spans : length t.spans ≡ length t.changes
  pub change_day : (q : ℕ) → change_at t q < day
  pub within : (p : ℕ) (s : Sailing) → place_at t p ≡ Some s → Within (length t.changes) s
  pub span_order : (q : ℕ) → (span_at t q).start ≤ (span_at t q).end
  pub span_end : (q : ℕ) → (span_at t q).end ≤ length t.places
  pub spanned : (p : ℕ) (s : Sailing) → place_at t p ≡ Some s → ((span_at t s.from).start ≤ p) × (p < (span_at t s.from).end)
