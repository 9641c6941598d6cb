-- The lines by which an answer of the board is told. Assumes nothing.
use Rattle.std.specs.Prelude.{Some, None, Ok, Err, Option, Result}
use Rattle.timetable.specs.declared.query.Leg.{Leg}
use Rattle.timetable.specs.declared.refusal.Refusal.{Refusal}
use Rattle.timetable.specs.declared.sailing.Sailing.{Sailing}
use Rattle.timetable.specs.Refusals.{number_of}
use Rattle.routing.specs.declared.found.Found.{Found}
use Rattle.layers.specs.Notices.{Notice}
use Rattle.board.specs.declared.calls.Answer.{Answer}
use Rattle.board.specs.declared.calls.Answer.TheVariants.{Notice as OfNotice, Count, Told}
use Rattle.typed.specs.declared.text.Text.{Text}
use Rattle.typed.specs.declared.text.Text.TheVariants.{Accepted, Thinned, NoWay, Arrives, Leg as OfLeg, Refused}

abbrev pub refusal_text : Refusal → Text
refusal_text e = Refused (number_of e)

abbrev pub notice_text : Notice → Text
notice_text (Ok done) = Accepted
notice_text (Err e) = refusal_text e

abbrev pub route_text : Result (Option Found) Refusal → Text
route_text (Ok (Some found)) = Arrives found.arrival found.legs
route_text (Ok None) = NoWay
route_text (Err e) = refusal_text e

-- the first line of an answer, which is the only one but for a journey
abbrev pub first_text : Answer → Text
first_text (OfNotice notice) = notice_text notice
first_text (Count count) = Thinned count
first_text (Told route) = route_text route

-- the line of a leg: its sailing, and when it leaves and arrives
abbrev pub leg_text : Sailing → Leg → Text
leg_text s leg = OfLeg s.run s.leg s.from s.to leg.leaves leg.arrives
