use Rattle.std.proofs.Common.{is_ok, Decides, sym, subst, arith}
use Rattle.image.specs.Images.{PrintedOf}
use Rattle.image.specs.Faults.{Told, PrintedWrong}
use Rattle.image.proofs.Exact.{printed_exact}
use Rattle.image.proofs.Finds.{printed_first}
use Rattle.image.proofs.check.check_printed.Goals as goal

pub returns : goal.returns
returns c =
    let bs = c.args.bytes.now in
    let e = c.judge_as.ensures in
    record {
      value = e;
      exact = subst (λ r. Decides (is_ok r) (PrintedOf bs)) (sym e) (printed_exact bs (λ i. let f = c.type_inv.bytes i in omega (arith, f)));
      first = λ f. subst (λ r. Told r (PrintedWrong bs) f) (sym e) (printed_first bs f);
    }
