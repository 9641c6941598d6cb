use Rattle.std.proofs.Common.{◌≡◌, ap, ◌∙◌}
use Rattle.timetable.specs.Timetables.{Timetable}
use Rattle.timetable.proofs.HidingLemmas.{hide_twice}
use Rattle.tables.specs.Kept.{kept}
use Rattle.thinning.specs.Dominance.{mark_of, dominated_in}
use Rattle.layers.specs.Notices.{of_withheld, touches_shut}
use Rattle.layers.specs.Layers.{Shutting, Withholding}
use Rattle.board.specs.States.{standing, AfterThin}
use Rattle.board.specs.Boards.{state_of}
use Rattle.board.proofs.Steps.{thin_carries}
use Rattle.board.proofs.board.Board.thin.Goals as goal

pub returns : goal.returns
returns g c =
    let b = c.args.self.now.thinned.below in
    let s = state_of g.B.Book.meaning c.args.self.now in
    let same = hide_twice (touches_shut (kept b.rule.quays)) (of_withheld (kept b.below.rule.runs)) (g.B.Book.meaning b.below.below) in
    let below = c.thin.ensures.below in
    let count : c.thin.result ≡ dominated_in (standing s) = c.thin.ensures.count ∙ ap dominated_in same in
    let after : AfterThin s (state_of g.B.Book.meaning (record { thinned = c.thin.new.self })) = record {
      opened = ap (λ (x : Shutting (Withholding g.row.B.Denot)). g.B.Book.meaning x.below.below) below;
      runs = ap (λ (x : Shutting (Withholding g.row.B.Denot)). kept x.below.rule.runs) below;
      quays = ap (λ (x : Shutting (Withholding g.row.B.Denot)). kept x.rule.quays) below;
      marks = λ p. c.thin.ensures.exact p ∙ ap (λ (x : Timetable). mark_of x p) same;
    } in
    record { count = count; after = after; law = thin_carries s _ _ count after }
