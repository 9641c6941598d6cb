-- A route over the book without a run. Assumes nothing.
use Rattle.std.specs.Prelude.{ℕ, Option, Result, nat_eq}
use Rattle.timetable.specs.declared.query.Query.{Query}
use Rattle.timetable.specs.declared.refusal.Refusal.{Refusal}
use Rattle.timetable.specs.Timetables.{Timetable}
use Rattle.timetable.specs.Hiding.{hide}
use Rattle.routing.specs.declared.found.Found.{Found}
use Rattle.routing.specs.Route.{Lent, Routed}

abbrev pub RoutedWithout : Timetable → ℕ → Query → Lent → Lent → Result (Option Found) Refusal → Type 0
RoutedWithout t run q given left r = Routed (hide (λ p s. nat_eq s.run run) t) q given left r
