use Rattle.std.proofs.Common.{◌≡◌, Ok}
use Rattle.image.specs.Checks.{up_to, sailing}
use Rattle.image.proofs.printed.check_sailings.Given as goal

abbrev pub invariant-loop-row : goal.invariant-loop-row
invariant-loop-row l = up_to (sailing l.bytes l.quays) l.row ≡ Ok tt
