-- A sailing at its place with what it takes to beat it, so that a thin weighs each sailing once. Assumes nothing.
use Rattle.std.specs.Prelude.{◌≡◌, ℕ, ◌+◌, Bool, false, not, ◌&&◌, List, length, Some, None, Option, ◌==◌, nat_le, nat_lt, slice_index_or}
use Rattle.timetable.specs.declared.sailing.Sailing.{Sailing}
use Rattle.timetable.specs.Times.{length_of, next}
use Rattle.timetable.specs.Timetables.{Timetable, place_at}
use Rattle.thinning.specs.declared.standing.Standing.{Standing}
use Rattle.thinning.specs.declared.standing.Weight.{Weight}
use Rattle.thinning.specs.Margins.{margin_before, margin_after}

abbrev pub weight_of : Timetable → Sailing → Weight
weight_of t s = record { length = length_of s; before = margin_before t s; after = margin_after t s }

-- what stands at a place, weighed
abbrev pub standing_from : Timetable → ℕ → Option Sailing → Option Standing
standing_from t p None = None
standing_from t p (Some s) = Some (record { place = p; sailing = s; weight = weight_of t s })

-- p leaves and arrives in time to beat q
abbrev pub in_time : Standing → Standing → Bool
in_time p q = nat_le (next p.sailing (q.sailing.dep + q.weight.before) + p.weight.length + q.weight.after) (q.sailing.dep + q.weight.length)

abbrev pub beats_by : Standing → Standing → Bool
beats_by p q = not (p.place == q.place) && (p.sailing.from == q.sailing.from && (p.sailing.to == q.sailing.to && in_time p q))

-- p outranks q
abbrev pub outranks_by : Standing → Standing → Bool
outranks_by p q = beats_by p q && not (nat_lt q.place p.place && beats_by q p)

-- what stands in a row outranks q
abbrev pub row_outranks : Standing → Option Standing → Bool
row_outranks q None = false
row_outranks q (Some p) = outranks_by p q

-- what stands at each place of t, weighed
pub record Weighs (t : Timetable) (rows : List (Option Standing)) : Type 0 where
  pub wide : length rows ≡ length t.places
  pub each : (p : ℕ) → slice_index_or rows p None ≡ standing_from t p (place_at t p)
