use Rattle.std.proofs.Common.{sym, subst, arith}
use Rattle.image.specs.Images.{Tells}
use Rattle.image.specs.Faults.{Told, Wrong}
use Rattle.image.proofs.Exact.{image_tells, image_first}
use Rattle.image.proofs.check.check_image.Goals as goal

pub returns : goal.returns
returns c =
    let bs = c.args.bytes.now in
    let e = c.judge.ensures in
    record {
      value = e;
      exact = subst (λ r. Tells bs r) (sym e) (image_tells bs (λ i. let f = c.type_inv.bytes i in omega (arith, f)));
      first = λ f. subst (λ r. Told r (Wrong bs) f) (sym e) (image_first bs f);
    }
