use Rattle.std.proofs.Common.{Ok, Option, Result, ap, ◌∙◌, arith}
use Rattle.timetable.specs.declared.refusal.Refusal.{Refusal}
use Rattle.timetable.specs.declared.sailing.Sailing.{Sailing}
use Rattle.routing_tests.specs.Fair.{places_many}
use Rattle.routing_tests.proofs.Answered.{place_told}
use Rattle.routing_tests.proofs.quays.FourQuaysBook.place.Goals as goal

pub bounds-self-place : goal.bounds-self-place
bounds-self-place c = omega (arith, places_many c.args.self.now.sailings.now, c.places.ensures)

pub returns : goal.returns
returns c =
    ap {B = Result (Option Sailing) Refusal} Ok c.content.ensures ∙ place_told c.args.self.now.sailings.now c.args.place _ (omega (arith, c.places.ensures))
