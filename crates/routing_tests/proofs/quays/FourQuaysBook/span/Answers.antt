use Rattle.routing_tests.proofs.Answered.{span_told}
use Rattle.routing_tests.proofs.quays.FourQuaysBook.span.Goals as goal

pub returns : goal.returns
returns c = span_told c.args.self.now.changes c.args.self.now.sailings.now c.args.quay c.places.result c.if-quay-ge4.false c.places.ensures
