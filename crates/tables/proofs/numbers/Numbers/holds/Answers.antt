use Rattle.std.proofs.Common.{ap, ◌∙◌}
use Rattle.tables.specs.Lists.{has}
use Rattle.tables.proofs.Moves.{has_any}
use Rattle.tables.proofs.numbers.Numbers.holds.Goals as goal

pub returns-then-not-is_empty : goal.returns-then-not-is_empty
returns-then-not-is_empty g c = c.contains.ensures.value ∙ has_any c.args.x _ ∙ ap (has c.args.x) c.deref.ensures.0
