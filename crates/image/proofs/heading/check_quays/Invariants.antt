use Rattle.std.proofs.Common.{◌≡◌, Ok}
use Rattle.image.specs.Checks.{up_to, quay}
use Rattle.image.proofs.heading.check_quays.Given as goal

abbrev pub invariant-loop-row : goal.invariant-loop-row
invariant-loop-row l = up_to (quay l.bytes) l.row ≡ Ok tt
