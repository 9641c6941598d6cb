-- What it is to go on from one place. Assumes nothing.
use Rattle.std.specs.Prelude.{◌≡◌, ℕ, ◌+◌, ◌<◌, ◌≤◌, List, length, Some, None, Option, slice_index_or}
use Rattle.timetable.specs.declared.span.Span.{Span}
use Rattle.timetable.specs.Classes.{most}
use Rattle.timetable.specs.Times.{day}
use Rattle.timetable.specs.Timetables.{Timetable, place_at, change_at, span_at, Lawful}
use Rattle.journey.specs.Journeys.{Stand}
use Rattle.routing.specs.declared.ride.Origin.{Origin}
use Rattle.routing.specs.declared.ride.Origin.TheVariants.{Start, Via}
use Rattle.routing.specs.declared.trip.Trip.{Trip}
use Rattle.routing.specs.declared.label.Label.{Label}
use Rattle.routing.specs.declared.label.Label.TheVariants.{Settled}
use Rattle.routing.specs.Labels.{look, settled, Linked}
use Rattle.routing.specs.Invariants.{Inv, Covers, Better}
use Rattle.routing.specs.Origins.{minute_of, stand_of}

-- a trip that may be asked for
pub record Fair (T : Timetable) (q : Trip) : Type 0 where
  pub lawful : Lawful T
  pub minute : q.minute < day
  pub extra : q.extra ≤ most
  pub from : q.from < length T.changes

-- the origin is the trip's start, or the ride of a settled place with the minutes to change there
abbrev pub Rooted : Timetable → Trip → List Label → Origin → Type 0
Rooted T q ls (Start quay m) = (quay ≡ q.from) × (m ≡ q.minute)
Rooted T q ls (Via k ride w) = (look ls k ≡ Settled ride) × (place_at T k ≡ Some ride.sailing) × (w ≡ change_at T ride.sailing.to + q.extra)

pub record Ready (T : Timetable) (q : Trip) (o : Origin) (ls : List Label) (ks : List (Option ℕ)) : Type 0 where
  pub fair : Fair T q
  pub sized : length ls ≡ length T.places
  pub linked : Linked ls ks
  pub inv : Inv T q ls (minute_of o) (settled ls)
  pub rooted : Rooted T q ls o

-- the places from a up to b were relaxed
pub record Through (T : Timetable) (q : Trip) (o : Origin) (ls ms : List Label) (ks : List (Option ℕ)) (a b : ℕ) : Type 0 where
  pub ready : Ready T q o ms ks
  pub better : Better ls ms
  pub covers : Covers T ms (stand_of o) a b

-- who comes to the quay at minute m, and changes there
abbrev pub late : Timetable → Trip → ℕ → ℕ → Stand
late T q quay m = record { quay = quay; minute = m; due = λ _. m + (change_at T quay + q.extra) }

-- a quay whose span is kept is open: whoever comes there from minute m on, and changes, finds each sailing labelled
abbrev pub Opened : Timetable → Trip → List Label → List (Option Span) → ℕ → Type 0
Opened T q ls ps m = (v : ℕ) (span : Span) → slice_index_or ps v None ≡ Some span → (span ≡ span_at T v) × Covers T ls (late T q v m) 0 (length T.places)
