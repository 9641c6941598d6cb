use Rattle.std.proofs.Common.{refl}
use Rattle.board.proofs.Decides.{answers_decided}
use Rattle.board.proofs.decided.answers_are_decided.Goals as goal

pub returns : goal.returns
returns c = ((λ _. answers_decided), λ _. refl)
