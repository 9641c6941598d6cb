use Rattle.std.proofs.Common.{rules, ◌∙◌}
use Rattle.arrayvec.proofs.ArrayVecLemmas.{filter-from_retain}
use Rattle.tables.proofs.Moves.{without_filter}
use Rattle.tables.proofs.numbers.Numbers.remove.Goals as goal

pub returns : goal.returns
returns g c =
    filter-from_retain _ _ _ (λ y b f' z called. search rules) _ _ c.retain.ensures.filtered ∙ without_filter c.args.x _
