use Rattle.std.proofs.Common.{◌+◌, [], ◌∷◌, refl, ap, ◌∙◌, arith}
use Rattle.std.specs.List.{flat_map}
use Rattle.image.specs.Layout.{two, letters}
use Rattle.binder.specs.Binding.{written}
use Rattle.binder.proofs.Puts.{written-written}
use Rattle.binder.proofs.records.QuayRow.put.Goals as goal

pub returns : goal.returns
returns c =
    let q = c.args.self in
    let at = c.args.at in
    c.put_name.ensures
    ∙ ap (written (at + 6) (letters q.name)) c.put_numbers.ensures
    ∙ written-written at (at + 6) (flat_map two (14 ∷ 3 ∷ q.change ∷ [])) (letters q.name) c.args.image.now refl (omega (arith, c.requires))
