use Rattle.std.proofs.Common.{◌≡◌, Ok}
use Rattle.image.specs.Checks.{up_to, zero_byte}
use Rattle.image.proofs.heading.check_zeros.Given as goal

abbrev pub invariant-loop-i : goal.invariant-loop-i
invariant-loop-i l = up_to (zero_byte l.bytes) l.i ≡ Ok tt
