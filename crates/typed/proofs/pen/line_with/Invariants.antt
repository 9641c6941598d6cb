use Rattle.std.proofs.Common.{◌≡◌, ◌+◌, ◌*◌, ◌≤◌, ◌∷◌, take}
use Rattle.std.specs.List.{flat_map}
use Rattle.arrayvec.specs.ArrayVec.{array_vec_len}
use Rattle.typed.specs.Lines.{spaced}
use Rattle.typed.proofs.pen.line_with.Given as goal

abbrev pub invariant-loop-number : goal.invariant-loop-number
invariant-loop-number l =
    (array_vec_len l.line ≤ 1 + 21 * l.number-index) × (l.line.items ≡ l.letter ∷ flat_map spaced (take l.number-index l.numbers))
