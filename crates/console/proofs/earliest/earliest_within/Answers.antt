use Rattle.std.proofs.Common.{◌∙◌}
use Rattle.console.proofs.Spans.{span_told}
use Rattle.console.proofs.earliest.earliest_within.Goals as goal

pub returns : goal.returns
returns g c =
    let b = c.args.book.now in
    c.earliest_at.ensures ∙ span_told (g.B.Book.meaning b) (g.B.Book.lawful b) c.args.quay c.args.minute c.args.span c.requires
