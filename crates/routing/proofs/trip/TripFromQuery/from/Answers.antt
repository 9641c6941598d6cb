use Rattle.std.proofs.Common.{◌∙◌}
use Rattle.routing.proofs.Told.{class_read, trip_is}
use Rattle.routing.proofs.trip.TripFromQuery.from.Goals as goal

pub returns : goal.returns
returns c =
    trip_is c.args.query c.from.result c.from-2.result c.from.ensures
    (c.from-2.ensures ∙ class_read c.args.query.class c.class_minutes.result c.unwrap_or.result c.class_minutes.ensures c.unwrap_or.ensures)
