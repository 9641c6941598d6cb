use Rattle.std.proofs.Common.{arith}
use Rattle.layers_tests.specs.Fair.{span_told, span_untold}
use Rattle.layers_tests.proofs.rows.RowsBook.span.Goals as goal

pub returns-then-quay-self : goal.returns-then-quay-self
returns-then-quay-self c = span_untold c.args.self.now.changes.now c.args.self.now.places.now c.args.quay (omega arith)

pub returns : goal.returns
returns c = span_told c.args.self.now.changes.now c.args.self.now.places.now c.args.quay (omega arith)
