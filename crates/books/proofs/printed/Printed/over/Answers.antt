use Rattle.std.proofs.Common.{is_ok, sym, ap}
use Rattle.image.proofs.Prints.{good}
use Rattle.books.proofs.printed.Printed.over.Goals as goal

pub invariant_of-result-2 : goal.invariant_of-result-2
invariant_of-result-2 c =
    let ok = ap is_ok (sym c.in-Ok.ensures.value) in
    let h = good c.args.bytes.now ok in
    record { sound = ok; long = h.long; few = h.head.few_quays }
