-- A plan that passes the test is a journey. Assumes nothing.
use Rattle.std.proofs.Common.{◌≡◌, ℕ, ◌+◌, true, ◌&&◌, List, [], ◌∷◌, Some, None, Option, sym, refl, subst}
use Rattle.std.proofs.lemmas.Bool.{eqb-true, leb-true, and_parts, false≢true}
use Rattle.timetable.specs.declared.sailing.Sailing.{Sailing}
use Rattle.timetable.specs.declared.query.Leg.{Leg}
use Rattle.timetable.specs.Times.{Leaves, next, length_of}
use Rattle.timetable.specs.Timetables.{Timetable, place_at}
use Rattle.timetable.proofs.Laws.{next_leaves}
use Rattle.journey.specs.Journeys.{Stand, after, Boards, Leads}
use Rattle.thinning.specs.Margins.{passes}
use Rattle.cases.proofs.Tests.{rides, leads_to}

pub rides_boards : (t : Timetable) (here : Stand) (leg : Leg) (s : Sailing) → place_at t leg.place ≡ Some s → rides here leg s ≡ true → Boards t here leg s
rides_boards t here leg s e h =
    let a = and_parts _ _ h in
    let b = and_parts _ _ a.1 in
    let c = and_parts _ _ b.1 in
    record {
      sailing = e;
      quay = eqb-true s.from here.quay a.0;
      leaves = subst (λ m. Leaves s m) (sym (eqb-true leg.leaves (next s leg.leaves) b.0)) (next_leaves s leg.leaves);
      ready = leb-true (here.due s) leg.leaves c.0;
      arrives = eqb-true leg.arrives (leg.leaves + length_of s) c.1;
    }

pub plan_leads : (t : Timetable) (extra : ℕ) (here : Stand) (legs : List Leg) (to a : ℕ) → leads_to t extra here legs to a ≡ true → Leads t extra here legs to a
plan_leads t extra here [] to a h = let e = and_parts _ _ h in (eqb-true here.quay to e.0, eqb-true here.minute a e.1)
plan_leads t extra here (leg ∷ legs) to a h = go (place_at t leg.place) refl h (λ s. plan_leads t extra (after t extra s leg.arrives) legs to a)
  where
    go : (x : Option Sailing) → place_at t leg.place ≡ x
        → passes (λ s. rides here leg s && leads_to t extra (after t extra s leg.arrives) legs to a) x ≡ true
        → ((s : Sailing) → leads_to t extra (after t extra s leg.arrives) legs to a ≡ true → Leads t extra (after t extra s leg.arrives) legs to a)
        → Leads t extra here (leg ∷ legs) to a
    go None e bad again = absurd (false≢true bad)
    go (Some s) e good again = let c = and_parts _ _ good in (s, rides_boards t here leg s e c.0, again s c.1)
