use Rattle.std.proofs.Common.{arith}
use Rattle.std.proofs.lemmas.Grind.{common_steps}
use Rattle.board.proofs.Steps.{kept_new}
use Rattle.board.proofs.board.Board.new.Goals as goal

pub returns-clause-law : goal.returns-clause-law
returns-clause-law g c = kept_new (g.B.Book.meaning c.args.opened) _ (grind (arith, common_steps))
