use Rattle.std.proofs.Common.{ap, ◌∙◌}
use Rattle.std.specs.List.{list_any, slice_range}
use Rattle.timetable.specs.declared.span.Span.{Span}
use Rattle.thinning.specs.Weights.{row_outranks}
use Rattle.thinning.proofs.Spans.{span_decides}
use Rattle.thinning.proofs.weighing.Weighed.is_dominated.Goals as goal

pub returns : goal.returns
returns g c =
    let x = c.args.self.now in
    let book = x.book.now in
    c.some_outranks.ensures
    ∙ ap (λ (s : Span). list_any (row_outranks c.args.q) (slice_range x.rows.now s.start s.end)) c.span_at-span.ensures
    ∙ span_decides (g.B.Book.meaning book) (g.B.Book.lawful book) x.rows.now x.each c.args.q c.requires
