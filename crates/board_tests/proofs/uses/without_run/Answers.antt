use Rattle.routing.specs.Route.{lent_in}
use Rattle.board_tests.proofs.Ones.{one}
use Rattle.board_tests.proofs.uses.without_run.Goals as goal

pub returns-clause-law : goal.returns-clause-law
returns-clause-law g c =
    one (g.B.Book.meaning c.args.opened) c.args.run c.args.query
    (lent_in g.L.Line.keys c.args.room.now)
    (lent_in g.L.Line.keys c.route.new.room)
    c.withhold.result c.thin.result c.route.result _ _ _ _
    c.new-board.ensures.law c.withhold.ensures.law c.thin.ensures.law c.route.ensures.law
