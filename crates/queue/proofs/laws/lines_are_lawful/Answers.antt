use Rattle.std.proofs.Common.{refl}
use Rattle.queue.proofs.Lawful.{line_laws}
use Rattle.queue.proofs.laws.lines_are_lawful.Goals as goal

pub returns : goal.returns
returns c = ((λ _. line_laws), λ _. refl)
