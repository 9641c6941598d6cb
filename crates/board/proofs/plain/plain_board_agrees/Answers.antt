use Rattle.std.proofs.Common.{refl}
use Rattle.board.proofs.Plains.{plain_agrees}
use Rattle.board.proofs.plain.plain_board_agrees.Goals as goal

pub returns : goal.returns
returns c = ((λ _. plain_agrees), λ _. refl)
