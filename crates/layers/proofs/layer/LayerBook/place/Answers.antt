use Rattle.std.proofs.Common.{rules, Ok, Err, ap, ◌∙◌}
use Rattle.std.proofs.lemmas.Result.{err_from_is_err_and}
use Rattle.timetable.proofs.HidingLemmas.{place_from}
use Rattle.layers.proofs.Blanking.{filtered}
use Rattle.layers.proofs.layer.LayerBook.place.Goals as goal

pub returns-in_err-there : goal.returns-in_err-there
returns-in_err-there g c =
    let p = err_from_is_err_and c.from_residual.result c.from_residual.ensures.1 in
    rw (p.1, p.2) (place_from (g.R.Rule.picks c.args.self.now.rule) (g.B.Book.meaning c.args.self.now.below) c.args.place (Err _) c.in_err-there.ensures)

pub returns : goal.returns
returns g c =
    ap Ok (filtered (g.R.Rule.picks c.args.self.now.rule c.args.place) _ (λ s b called. search rules) _ _ c.filter.ensures)
    ∙ place_from (g.R.Rule.picks c.args.self.now.rule) (g.B.Book.meaning c.args.self.now.below) c.args.place (Ok _) c.in_ok-there.ensures
