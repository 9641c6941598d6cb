use Rattle.std.proofs.Common.{Err, length, sym, refl, ap, ◌∙◌, arith}
use Rattle.std.proofs.lemmas.Result.{err_from_is_err_and}
use Rattle.binder.proofs.Checked.{bound-fault, bound-short, bound-whole}
use Rattle.binder.proofs.bind.bind_checked.Goals as goal

pub returns-in_err-check_content : goal.returns-in_err-check_content
returns-in_err-check_content c =
    let p = err_from_is_err_and c.from_residual.result c.from_residual.ensures.1 in
    record {
      value = p.1 ∙ ap Err p.2 ∙ sym (bound-fault c.args.quays.now c.args.sailings.now (length c.args.image.now) _ (sym c.in_err-check_content.ensures));
      buffer = rw p.1 refl;
    }

pub returns-then-image-len : goal.returns-then-image-len
returns-then-image-len c = record {
  value = sym (bound-short c.args.quays.now c.args.sailings.now (length c.args.image.now) (sym c.in_ok-check_content.ensures) (omega arith));
  buffer = refl;
}

pub returns : goal.returns
returns c = record {
  value = sym (bound-whole c.args.quays.now c.args.sailings.now (length c.args.image.now) (sym c.in_ok-check_content.ensures) (omega arith));
  buffer = c.write_book.ensures;
}
