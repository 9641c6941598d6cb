use Rattle.std.proofs.Common.{arith}
use Rattle.routing_tests.specs.Fair.{places_many}
use Rattle.routing_tests.proofs.quays.FourQuaysBook.places.Goals as goal

pub returns : goal.returns
returns c = omega (arith, places_many c.args.self.now.sailings.now, c.min.ensures)
