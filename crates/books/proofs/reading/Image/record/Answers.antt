use Rattle.std.proofs.Common.{suc, ◌≤◌, mul-le-mul_left, mul-suc, arith}
use Rattle.image.specs.Records.{entries_in}
use Rattle.books.proofs.reading.Image.record.Goals as goal

pub invariant_of-result : goal.invariant_of-result
invariant_of-result g c =
    let l : suc c.args.row ≤ entries_in c.args.self.now.bytes.now = omega (arith, c.requires) in
    record { whole = omega (arith, mul-le-mul_left g.row.WIDE l, mul-suc g.row.WIDE c.args.row, c.quays.ensures, c.args.self.now.long) }
