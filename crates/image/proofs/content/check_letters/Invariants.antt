use Rattle.std.proofs.Common.{◌≡◌, Ok}
use Rattle.image.specs.Checks.{up_to}
use Rattle.image.specs.Content.{letter}
use Rattle.image.proofs.content.check_letters.Given as goal

abbrev pub invariant-loop-i : goal.invariant-loop-i
invariant-loop-i l = up_to (letter l.fn.quay l.row) l.i ≡ Ok tt
