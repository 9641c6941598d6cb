-- Where a sailing is boarded from. Assumes nothing.
use Rattle.std.specs.Prelude.{ℕ, ◌+◌, ◌<◌, ◌≤◌, cond, Some, None, Option}
use Rattle.timetable.specs.declared.sailing.Sailing.{Sailing}
use Rattle.timetable.specs.Times.{day, length_of, next, continues}
use Rattle.journey.specs.Journeys.{Stand}
use Rattle.routing.specs.declared.ride.Ride.{Ride}
use Rattle.routing.specs.declared.ride.Origin.{Origin}
use Rattle.routing.specs.declared.ride.Origin.TheVariants.{Start, Via}

abbrev pub quay_of : Origin → ℕ
quay_of (Start quay m) = quay
quay_of (Via k ride w) = ride.sailing.to

abbrev pub minute_of : Origin → ℕ
minute_of (Start quay m) = m
minute_of (Via k ride w) = ride.arrives

-- from when s may be boarded: a barge that sails on keeps its load aboard
abbrev pub due_of : Origin → Sailing → ℕ
due_of (Start quay m) s = m
due_of (Via k ride w) s = ride.arrives + cond (continues s ride.sailing) 0 w

abbrev pub via_of : Origin → Option ℕ
via_of (Start quay m) = None
via_of (Via k ride w) = Some k

abbrev pub depth_of : Origin → ℕ
depth_of (Start quay m) = 0
depth_of (Via k ride w) = ride.depth

abbrev pub stand_of : Origin → Stand
stand_of o = record { quay = quay_of o; minute = minute_of o; due = due_of o }

-- the ride with s from there
abbrev pub ride_from : Origin → Sailing → Ride
ride_from o s = record { sailing = s; leaves = next s (due_of o s); arrives = next s (due_of o s) + length_of s; via = via_of o; depth = depth_of o + 1 }

-- the latest from when any sailing must be boarded: after a change
abbrev pub latest_due : Origin → ℕ
latest_due (Start quay m) = m
latest_due (Via k ride w) = ride.arrives + w

-- numbers that fit
pub record Small (o : Origin) (s : Sailing) : Type 0 where
  pub due : latest_due o < 2000000000
  pub depth : depth_of o ≤ 3072
  pub dep : s.dep < day
  pub arr : s.arr < day
