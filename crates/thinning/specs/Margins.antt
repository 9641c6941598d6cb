-- The margins that keep a load's barge in reach. Assumes nothing.
use Rattle.std.specs.Prelude.{ℕ, ◌+◌, Bool, false, cond, List, Some, None, Option}
use Rattle.std.specs.List.{list_any}
use Rattle.timetable.specs.declared.sailing.Sailing.{Sailing}
use Rattle.timetable.specs.Classes.{most}
use Rattle.timetable.specs.Times.{continues}
use Rattle.timetable.specs.Timetables.{Timetable, change_at}

-- whether a place has a sailing that passes the test
abbrev pub passes : (Sailing → Bool) → Option Sailing → Bool
passes f None = false
passes f (Some s) = f s

-- whether some place of the row has one
abbrev pub some_passes : (Sailing → Bool) → List (Option Sailing) → Bool
some_passes f = list_any (passes f)

-- the longest wait at a quay with this change time, where a load might have stayed aboard, else none
abbrev pub margin : Bool → ℕ → ℕ
margin aboard change = cond aboard (change + most) 0

-- kept before s, if it continues some sailing in force
abbrev pub margin_before : Timetable → Sailing → ℕ
margin_before t s = margin (some_passes (λ r. continues s r) t.places) (change_at t s.from)

-- kept after s, if some sailing in force continues it
abbrev pub margin_after : Timetable → Sailing → ℕ
margin_after t s = margin (some_passes (λ r. continues r s) t.places) (change_at t s.to)
