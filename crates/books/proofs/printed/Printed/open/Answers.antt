use Rattle.std.proofs.Common.{arith}
use Rattle.image.proofs.Opened.{printed_opens}
use Rattle.books.proofs.printed.Printed.open.Goals as goal

pub returns : goal.returns
returns c = printed_opens c.args.bytes.now (λ i. let f = c.type_inv.bytes i in omega (arith, f)) _ c.over.ensures
