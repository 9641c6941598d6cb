-- What one call does to a board, whatever its history. Assumes nothing.
use Rattle.std.specs.Prelude.{◌≡◌, Option, Result}
use Rattle.timetable.specs.declared.refusal.Refusal.{Refusal}
use Rattle.thinning.specs.Dominance.{dominated_in}
use Rattle.routing.specs.declared.found.Found.{Found}
use Rattle.routing.specs.Route.{Lent, Routed}
use Rattle.timetable.specs.declared.call.Call.{Call}
use Rattle.timetable.specs.declared.call.Call.TheVariants.{Withhold, Release, Shut, Open, Thin, Route}
use Rattle.board.specs.declared.calls.Answer.{Answer}
use Rattle.board.specs.declared.calls.Answer.TheVariants.{Notice, Count, Told}
use Rattle.board.specs.States.{State, standing, shown, on_withhold, on_release, on_shut, on_open, after_withhold, after_release, after_shut, after_open, AfterThin}

-- its answer, the state after it, and what it leaves of what is lent
abbrev pub Does : State → Call → Answer → Lent → Lent → State → Type 0
Does s (Withhold run) a given left new = (a ≡ Notice (on_withhold s run)) × (new ≡ after_withhold s run) × (left ≡ given)
Does s (Release run) a given left new = (a ≡ Notice (on_release s run)) × (new ≡ after_release s run) × (left ≡ given)
Does s (Shut quay) a given left new = (a ≡ Notice (on_shut s quay)) × (new ≡ after_shut s quay) × (left ≡ given)
Does s (Open quay) a given left new = (a ≡ Notice (on_open s quay)) × (new ≡ after_open s quay) × (left ≡ given)
Does s Thin a given left new = (a ≡ Count (dominated_in (standing s))) × AfterThin s new × (left ≡ given)
Does s (Route q) a given left new = (r : Result (Option Found) Refusal) × (a ≡ Told r) × Routed (shown s) q given left r × (new ≡ s)
