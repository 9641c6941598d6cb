use Rattle.std.proofs.Common.{sym, ◌∙◌}
use Rattle.timetable.proofs.HidingLemmas.{places_hidden}
use Rattle.layers.proofs.layer.LayerBook.places.Goals as goal

pub returns : goal.returns
returns g c = c.places.ensures ∙ sym (places_hidden (g.R.Rule.picks c.args.self.now.rule) (g.B.Book.meaning c.args.self.now.below))
