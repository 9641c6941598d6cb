use Rattle.std.proofs.Common.{is_ok, Decides, sym, subst, arith}
use Rattle.image.specs.Images.{ClockOf}
use Rattle.image.specs.Faults.{Told, ClockWrong}
use Rattle.image.proofs.Exact.{clock_exact}
use Rattle.image.proofs.Finds.{clock_first}
use Rattle.image.proofs.check.check_clock_face.Goals as goal

pub returns : goal.returns
returns c =
    let bs = c.args.bytes.now in
    let e = c.judge_as.ensures in
    record {
      value = e;
      exact = subst (λ r. Decides (is_ok r) (ClockOf bs)) (sym e) (clock_exact bs (λ i. let f = c.type_inv.bytes i in omega (arith, f)));
      first = λ f. subst (λ r. Told r (ClockWrong bs) f) (sym e) (clock_first bs f);
    }
