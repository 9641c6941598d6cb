use Rattle.std.proofs.Common.{sym, ap, ◌∙◌}
use Rattle.thinning.specs.Margins.{passes}
use Rattle.thinning.specs.Dominance.{dominated}
use Rattle.thinning.specs.Thinning.{marked}
use Rattle.thinning.proofs.Tested.{dominance}
use Rattle.thinning.proofs.Replaced.{keeps}
use Rattle.thinning.proofs.thin.thin.Goals as goal

pub returns : goal.returns
returns g c =
    let t = g.B.Book.meaning c.args.book.now in
    let done = c.mark_dominated.ensures in
    record {
      exact = done.exact;
      count = done.count;
      keeps = keeps t (marked c.mark_dominated.new.marks.at) (λ p s e m. (dominance t p s).0 (sym (ap (passes (dominated t p)) e) ∙ sym (done.exact p) ∙ m));
    }
