use Rattle.typed.proofs.Spelling.{spells}
use Rattle.typed.proofs.write.write_line.Goals as goal

pub returns-then-len-line-clause-spelled : goal.returns-then-len-line-clause-spelled
returns-then-len-line-clause-spelled c = spells

pub returns-clause-spelled : goal.returns-clause-spelled
returns-clause-spelled c = spells
