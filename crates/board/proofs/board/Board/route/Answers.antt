use Rattle.std.proofs.Common.{subst}
use Rattle.timetable.specs.Timetables.{Timetable}
use Rattle.timetable.specs.Hiding.{hide}
use Rattle.timetable.proofs.HidingLemmas.{hide_twice}
use Rattle.tables.specs.Kept.{kept}
use Rattle.thinning.specs.Thinning.{marked}
use Rattle.layers.specs.Notices.{of_withheld, touches_shut}
use Rattle.routing.specs.Route.{Routed, Lent, lent_in}
use Rattle.board.specs.States.{shown}
use Rattle.board.specs.Boards.{state_of}
use Rattle.board.proofs.Lifted.{in_force}
use Rattle.board.proofs.Steps.{route_carries}
use Rattle.board.proofs.board.Board.route.Goals as goal

pub returns : goal.returns
returns g c =
    let b = c.args.self.now.thinned.below in
    let s = state_of g.B.Book.meaning c.args.self.now in
    let q = c.args.query in
    let given : Lent = lent_in g.L.Line.keys c.args.room.now in
    let left : Lent = lent_in g.L.Line.keys c.route.new.room in
    let r = c.route.result in
    let told : Routed (shown s) q given left r =
    subst (λ (x : Timetable). Routed (hide (marked s.marks) x) q given left r)
    (hide_twice (touches_shut (kept b.rule.quays)) (of_withheld (kept b.below.rule.runs)) (g.B.Book.meaning b.below.below)) c.route.ensures.routed in
    record { shown = told; law = route_carries s q r given left (in_force s q given left r told) (record { labels = c.route.ensures.same.many_labels; legs = c.route.ensures.same.many_legs }); same = c.route.ensures.same }
