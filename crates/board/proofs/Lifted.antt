-- A route that passes over marked sailings is one of the book in force. Assumes nothing.
use Rattle.std.proofs.Common.{◌≡◌, ℕ, ◌≤◌, Bool, List, length, take, Some, None, Ok, Err, Option, Result, sym, ap, ◌∙◌, subst}
use Rattle.timetable.specs.declared.sailing.Sailing.{Sailing}
use Rattle.timetable.specs.declared.query.Query.{Query}
use Rattle.timetable.specs.declared.query.Leg.{Leg}
use Rattle.timetable.specs.declared.refusal.Refusal.{Refusal}
use Rattle.timetable.specs.Timetables.{Timetable}
use Rattle.timetable.specs.Hiding.{hide}
use Rattle.timetable.proofs.HidingLemmas.{places_hidden}
use Rattle.journey.proofs.Follows.{journey_laws}
use Rattle.thinning.specs.Thinning.{Picks, marked}
use Rattle.thinning.proofs.Replaced.{keeps}
use Rattle.routing.specs.declared.found.Found.{Found}
use Rattle.routing.specs.Route.{Lent, cause_of, cause_in, Tells, Routed}
use Rattle.board.specs.History.{History}
use Rattle.board.specs.Force.{book_in_force}
use Rattle.board.specs.States.{State, shown}
use Rattle.board.specs.Kept.{Kept}

-- for any test that picks dominated sailings only
module _ (t : Timetable) (f : ℕ → Sailing → Bool) (picks : Picks f t) (q : Query) where
  tells : (old new : List Leg) (r : Option Found) → Tells (hide f t) q old new r → Tells t q old new r
  tells old new None told = ((keeps t f picks).none q told.0, told.1)
  tells old new (Some x) best = record {
    journey = journey_laws.below f t q (take x.legs new) x.arrival best.journey;
    earliest = (keeps t f picks).earliest q x.arrival best.earliest;
    apart = best.apart;
    inside = subst (λ (n : ℕ). x.legs ≤ n) (places_hidden f t) best.inside;
    bound = best.bound;
    rest = best.rest;
  }

  module _ (given left : Lent) where
    cause_is : cause_in t q given ≡ cause_in (hide f t) q given
    cause_is = ap (λ (n : ℕ). cause_of q (length t.changes) n (length given.labels) (length given.legs) (length given.keys)) (sym (places_hidden f t))

    lifted : (r : Result (Option Found) Refusal) → Routed (hide f t) q given left r → Routed t q given left r
    lifted (Err e) told = (cause_is ∙ told.0, told.1)
    lifted (Ok found) told = (cause_is ∙ told.0, tells given.legs left.legs found told.1)

-- on a board after h
pub in_force : (s : State) (q : Query) (given left : Lent) (r : Result (Option Found) Refusal) → Routed (shown s) q given left r →
    (t : Timetable) (h : History) → Kept t h s → Routed (book_in_force t h) q given left r
in_force s q given left r told t h k =
    lifted (book_in_force t h) (marked s.marks) k.marks q given left r
    (subst (λ (u : Timetable). Routed (hide (marked s.marks) u) q given left r) k.in_force told)
