use Rattle.std.proofs.Common.{◌+◌, ◌/◌, ◌%◌, [], ◌∷◌, arith}
use Rattle.std.proofs.lemmas.List.{append_assoc, length-append}
use Rattle.typed.specs.Digits.{digits}
use Rattle.typed.proofs.Spelling.{digits-one, digits_more, digits_grow}
use Rattle.typed.proofs.pen.+put_digits.Goals as goal
use Rattle.typed.proofs.pen.+put_digits.Goals.{then-number-ge10, else-number-ge10}

pub put_digits-requires : goal.put_digits-requires
put_digits-requires t c = (omega arith, omega (arith, digits_grow c.args.number (omega arith)))

pub push-requires : goal.push-requires
push-requires t c =
    let n = c.args.number in
    elim c.if-number-ge10.branch [
      | then-number-ge10 w ↦ grind (arith, digits_grow n (omega arith), length-append c.args.line.now.items (digits (n / 10)))
      | else-number-ge10 w ↦ grind (arith, digits-one n (omega arith))
    ]

pub returns : goal.returns
returns t c =
    let n = c.args.number in
    let front = c.args.line.now.items in
    elim c.if-number-ge10.branch [
      | then-number-ge10 w ↦ grind (arith, digits_more n (omega arith), append_assoc front (digits (n / 10)) ((48 + n % 10) ∷ []))
      | else-number-ge10 w ↦ grind (arith, digits-one n (omega arith))
    ]
