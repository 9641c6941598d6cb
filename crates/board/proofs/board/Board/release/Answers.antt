use Rattle.std.proofs.Common.{arith}
use Rattle.std.proofs.lemmas.Grind.{common_steps}
use Rattle.board.specs.Boards.{state_of}
use Rattle.board.proofs.Steps.{release_carries}
use Rattle.board.proofs.board.Board.release.Goals as goal

pub returns-in_err-release-clause-law : goal.returns-in_err-release-clause-law
returns-in_err-release-clause-law g c = release_carries (state_of g.B.Book.meaning c.args.self.now) _ _ c.args.run (grind (arith, common_steps)) (grind (arith, common_steps))

pub returns-clause-law : goal.returns-clause-law
returns-clause-law g c = release_carries (state_of g.B.Book.meaning c.args.self.now) _ _ c.args.run (grind (arith, common_steps)) (grind (arith, common_steps))
