use Rattle.std.proofs.Common.{cond, length, is_ok, sym, ap, ◌∙◌, subst, arith}
use Rattle.binder.specs.Binding.{book_bytes, over, Faults, Accepts}
use Rattle.image.proofs.Contained.{small_take}
use Rattle.binder.proofs.Bound.{held, first_bound, accepts}
use Rattle.binder.proofs.bind.bind.Goals as goal

pub returns : goal.returns
returns c =
    let quays = c.args.quays.now in
    let xs = c.args.sailings.now in
    let d = c.args.image.now in
    let e = c.bind_checked.ensures in
    record {
      value = e.value;
      buffer = e.buffer;
      first = λ f. subst (λ r. Faults r quays xs f) (sym e.value) (first_bound quays xs (length d) f);
      accepts = subst (λ r. Accepts r quays xs (length d)) (sym e.value) (accepts quays xs (length d));
      whole = λ n h. held quays xs d c.bind_checked.new.image (length d) n (sym e.value ∙ h) (e.buffer ∙ ap (λ r. cond (is_ok r) (over (book_bytes quays xs) d) d) h) (small_take c.bind_checked.new.image n (λ i. let f = c.type_inv.image i in omega (arith, f)));
    }
