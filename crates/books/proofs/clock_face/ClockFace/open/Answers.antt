use Rattle.std.proofs.Common.{arith}
use Rattle.image.proofs.Opened.{clock_opens}
use Rattle.books.proofs.clock_face.ClockFace.open.Goals as goal

pub returns : goal.returns
returns c = clock_opens c.args.bytes.now (λ i. let f = c.type_inv.bytes i in omega (arith, f)) _ c.over.ensures
