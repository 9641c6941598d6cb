use Rattle.std.proofs.Common.{◌≡◌, ◌≤◌, Ok}
use Rattle.image.specs.Checks.{up_to, series, places_to}
use Rattle.image.proofs.clock_face.check_all_series.Given as goal

abbrev pub invariant-loop-row : goal.invariant-loop-row
invariant-loop-row l = (up_to (series l.bytes l.quays) l.row ≡ Ok tt) × (l.places ≡ places_to l.bytes l.quays l.row) × (l.places ≤ 3072)
