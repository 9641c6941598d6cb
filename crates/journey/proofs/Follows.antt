-- Journeys, leg by leg. Assumes nothing.
use Rattle.std.proofs.Common.{◌≡◌, ℕ, ◌≤◌, Bool, List, [], ◌∷◌, ◌++◌, sym, refl, arith}
use Rattle.timetable.specs.declared.sailing.Sailing.{Sailing}
use Rattle.timetable.specs.declared.query.Leg.{Leg}
use Rattle.timetable.specs.Timetables.{Timetable}
use Rattle.timetable.specs.Hiding.{hide}
use Rattle.timetable.proofs.HidingLemmas.{place_below}
use Rattle.journey.specs.Journeys.{Stand, start, after, Leads}
use Rattle.journey.specs.Laws.{JourneyLaws}

last_arrives : (t : Timetable) (extra : ℕ) (here : Stand) (legs : List Leg) (leg : Leg) (to a : ℕ) → Leads t extra here (legs ++ (leg ∷ [])) to a → a ≡ leg.arrives
last_arrives t extra here [] leg to a h = sym h.2.1
last_arrives t extra here (x ∷ legs) leg to a h = last_arrives t extra (after t extra h.0 x.arrives) legs leg to a h.2

-- no sailing is due before the minute at which the load stands
abbrev pub Forward : Stand → Type 0
Forward here = (s : Sailing) → here.minute ≤ here.due s

pub after_forward : (t : Timetable) (extra : ℕ) (r : Sailing) (m : ℕ) → Forward (after t extra r m)
after_forward t extra r m s = omega arith

pub leads_forward : (t : Timetable) (extra : ℕ) (here : Stand) (legs : List Leg) (to a : ℕ) → Forward here → Leads t extra here legs to a → here.minute ≤ a
leads_forward t extra here [] to a f h = omega (arith, h.1)
leads_forward t extra here (x ∷ legs) to a f h =
    let s = h.0 in
    let b = h.1 in
    omega (arith, f s, b.ready, b.arrives, leads_forward t extra (after t extra s x.arrives) legs to a (after_forward t extra s x.arrives) h.2)

pub leads_single : (t : Timetable) (extra : ℕ) (x y : Stand) (legs : List Leg) (to a b : ℕ) → x.minute ≡ y.minute → Leads t extra x legs to a → Leads t extra y legs to b → a ≡ b
leads_single t extra x y [] to a b e g h = omega (arith, g.1, h.1)
leads_single t extra x y (leg ∷ legs) to a b e g h = leads_single t extra (after t extra g.0 leg.arrives) (after t extra h.0 leg.arrives) legs to a b refl g.2 h.2

pub leads_below : (f : ℕ → Sailing → Bool) (t : Timetable) (extra : ℕ) (here : Stand) (legs : List Leg) (to a : ℕ) → Leads (hide f t) extra here legs to a → Leads t extra here legs to a
leads_below f t extra here [] to a h = h
leads_below f t extra here (x ∷ legs) to a h =
    let s = h.0 in
    let b = h.1 in (
      s,
      record { sailing = place_below f t x.place s b.sailing; quay = b.quay; leaves = b.leaves; ready = b.ready; arrives = b.arrives },
      leads_below f t extra (after t extra s x.arrives) legs to a h.2,
    )

pub journey_laws : JourneyLaws
journey_laws = record {
  empty = λ t q a h. (h.0, sym h.1);
  stays = λ t q e. (e, refl);
  last = λ t q legs leg a h. last_arrives t _ _ legs leg _ a h;
  forward = λ t q legs a h. leads_forward t _ (start q.from q.minute) legs _ a (λ s. omega arith) h;
  single = λ t q legs a b g h. leads_single t _ _ _ legs _ a b refl g h;
  below = λ f t q legs a h. leads_below f t _ _ legs _ a h;
}
