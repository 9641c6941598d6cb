use Rattle.std.proofs.Common.{◌≡◌, ℕ, ◌+◌, ◌-◌, List, length, take, drop, ap, ◌∙◌, arith}
use Rattle.image.specs.Names.{trimmed}
use Rattle.image.proofs.Trims.{left_is}
use Rattle.books.proofs.reading.name_at.Goals as goal

pub returns : goal.returns
returns c =
    let at = c.args.at in
    let rest : List ℕ = drop at c.args.bytes.now in
    let name : List ℕ = take (at + 10 - at) rest in
    let ten : at + 10 - at ≡ 10 = omega arith in
    ap (λ k. take (length name - k) name) c.spaces_after.ensures ∙ ap (λ k. take k name) (left_is name) ∙ ap (λ k. trimmed (take k rest)) ten
