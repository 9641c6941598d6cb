use Rattle.std.proofs.Common.{◌≡◌, length, get_or, refl, ap, ◌∙◌, arith}
use Rattle.std.proofs.lemmas.List.FromFn.{fill_by_all}
use Rattle.binder.specs.Binding.{written}
use Rattle.binder.proofs.records.put_name.Goals as goal

pub returns : goal.returns
returns c =
    let name = c.args.name.now in
    let ten : length name ≡ 10 = omega arith in
    c.put.ensures ∙ ap (λ l. written c.args.at l c.args.image.now) (fill_by_all (λ i. get_or name i 0) name 10 0 ten (λ k l. refl))
