use Rattle.std.proofs.Common.{◌≡◌, ℕ, ◌+◌, [], ◌∷◌, ◌++◌, get_or, take, sym, ap, ◌∙◌, arith}
use Rattle.std.specs.List.{flat_map}
use Rattle.std.proofs.lemmas.List.{take_more, length-append, append_assoc, flat_map_more}
use Rattle.typed.specs.Lines.{spaced}
use Rattle.typed.specs.Digits.{digits}
use Rattle.typed.proofs.Spelling.{few_digits}
use Rattle.typed.proofs.pen.line_with.Goals as goal

pub put_digits-requires : goal.put_digits-requires
put_digits-requires c = grind (arith, few_digits (get_or c.args.numbers.now c.loop-number.number-index 0) (omega (arith, c.type_inv.numbers c.loop-number.number-index)))

pub loop-number-preserved : goal.loop-number-preserved
loop-number-preserved c =
    let ns = c.args.numbers.now in
    let i = c.loop-number.number-index in
    let n : ℕ = get_or ns i 0 in
    let front = c.loop-number.line.items in
    let grown : flat_map spaced (take (i + 1) ns) ≡ flat_map spaced (take i ns) ++ spaced n =
    ap (flat_map spaced) (take_more ns i 0 (omega arith)) ∙ sym (flat_map_more spaced [] (take i ns) n) in (
      grind (arith, length-append (front ++ 32 ∷ []) (digits n), few_digits n (omega (arith, c.type_inv.numbers i))),
      c.put_digits.ensures ∙ (ap (λ xs. xs ++ digits n) c.push-in-loop-number.ensures.items ∙ (append_assoc front (32 ∷ []) (digits n)
          ∙ (ap (λ xs. xs ++ spaced n) c.loop-number.invariant.1 ∙ ap (λ xs. c.args.letter ∷ xs) (sym grown)))),
    )
