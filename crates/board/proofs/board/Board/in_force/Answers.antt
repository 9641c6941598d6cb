use Rattle.std.proofs.Common.{◌∙◌}
use Rattle.timetable.proofs.HidingLemmas.{hide_twice}
use Rattle.tables.specs.Kept.{kept}
use Rattle.layers.specs.Notices.{of_withheld, touches_shut}
use Rattle.board.proofs.board.Board.in_force.Goals as goal

pub returns-clause-law : goal.returns-clause-law
returns-clause-law g c =
    let b = c.args.self.now.thinned.below in
    let stands = hide_twice (touches_shut (kept b.rule.quays)) (of_withheld (kept b.below.rule.runs)) (g.B.Book.meaning b.below.below) in
    record { stands = stands; in_force = λ t h k. stands ∙ k.in_force }
