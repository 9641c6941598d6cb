-- Where a load stands, as the vetting keeps it. Assumes nothing.
use Rattle.std.specs.Prelude.{ℕ, ◌+◌, cond, Some, None, Option}
use Rattle.timetable.specs.declared.sailing.Sailing.{Sailing}
use Rattle.timetable.specs.Times.{continues}
use Rattle.journey.specs.Journeys.{Stand}
use Rattle.vet.specs.declared.standing.Arrival.{Arrival}
use Rattle.vet.specs.declared.standing.Standing.{Standing}

-- from when the load may leave with s: at once at the start, and with the barge that it came with
abbrev pub due_after : ℕ → Option Arrival → Sailing → ℕ
due_after minute None s = minute
due_after minute (Some came) s = minute + cond (continues s came.sailing) 0 came.change

abbrev pub stand_of : Standing → Stand
stand_of here = record { quay = here.quay; minute = here.minute; due = due_after here.minute here.came }
