use Rattle.std.proofs.Common.{◌≡◌, Ok}
use Rattle.image.specs.Checks.{up_to}
use Rattle.binder.specs.Content.{quay_row}
use Rattle.binder.proofs.content.check_quays.Given as goal

abbrev pub invariant-loop-row : goal.invariant-loop-row
invariant-loop-row l = up_to (quay_row l.quays) l.row ≡ Ok tt
