use Rattle.std.proofs.Common.{arith}
use Rattle.std.proofs.lemmas.Grind.{common_steps}
use Rattle.vet.proofs.Asked.{vetted_at}
use Rattle.vet.proofs.vet.vet.Goals as goal

pub returns-in_err-check-clause-law : goal.returns-in_err-check-clause-law
returns-in_err-check-clause-law g c = vetted_at (g.B.Book.meaning c.args.book.now) c.args.query c.args.plan.now c.from_residual.result (grind (arith, common_steps))

pub returns-clause-law : goal.returns-clause-law
returns-clause-law g c = vetted_at (g.B.Book.meaning c.args.book.now) c.args.query c.args.plan.now _ (grind (arith, common_steps))
