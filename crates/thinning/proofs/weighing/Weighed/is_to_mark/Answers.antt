use Rattle.std.proofs.Common.{◌≡◌, Some, None, refl, ◌∙◌}
use Rattle.thinning.specs.Dominance.{dominated}
use Rattle.thinning.proofs.Spans.{row_marked}
use Rattle.thinning.proofs.weighing.Weighed.is_to_mark.Goals as goal

pub returns-in-Some : goal.returns-in-Some
returns-in-Some g c =
    let x = c.args.self.now in
    let t = g.B.Book.meaning x.book.now in
    row_marked t x.rows.now x.each c.args.place (Some _) (c.requires ∙ c.in-Some.is) c.is_dominated.result (λ q. c.is_dominated.result ≡ dominated t q.place q.sailing) (λ q h. h) c.is_dominated.ensures

pub returns-in-None : goal.returns-in-None
returns-in-None g c =
    let x = c.args.self.now in
    row_marked (g.B.Book.meaning x.book.now) x.rows.now x.each c.args.place None (c.requires ∙ c.in-None.is) _ (λ q. ⊥) (λ q h. absurd h) refl
