use Rattle.std.proofs.Common.{arith}
use Rattle.std.proofs.lemmas.Grind.{common_steps}
use Rattle.std.proofs.lemmas.List.{length-take}
use Rattle.timetable.proofs.Laws.{class_short}
use Rattle.routing.proofs.Told.{stays, fit_from, fit_minute}
use Rattle.routing.proofs.route.route.Goals as goal

pub returns-then-query-clause-routed : goal.returns-then-query-clause-routed
returns-then-query-clause-routed g c = (
  grind (arith, common_steps),
  stays (g.B.Book.meaning c.args.book.now) c.args.query c.args.room.now.legs.now c.from-then-query.result c.from-then-query.ensures (fit_minute c.args.query c.quays.result c.in_ok-check.ensures.lowest) c.if-query.true,
)

pub find-requires-clause-asked : goal.find-requires-clause-asked
find-requires-clause-asked g c =
    let fit = c.in_ok-check.ensures.lowest in
    let part = length-take c.from-places.result c.args.room.now.labels.now in
    record {
      fair = record {
        lawful = g.B.Book.lawful c.args.book.now;
        minute = fit_minute c.args.query c.quays.result fit;
        extra = class_short c.args.query.class;
        from = omega (arith, fit_from c.args.query c.quays.result fit, c.quays.ensures);
      };
      apart = c.if-query.false;
      sized = omega (arith, part, c.places.ensures, c.from-places.ensures);
      room = omega (arith, part, c.places.ensures, c.size.ensures);
    }
