-- The way back along the labels is a journey. Assumes nothing.
use Rattle.std.proofs.Common.{◌≡◌, ℕ, ◌+◌, ◌-◌, ◌<◌, ◌≤◌, List, [], ◌∷◌, length, take, drop, set, Some, None, Option, sym, refl, ap, ◌∙◌, subst, inl, inr, arith}
use lib.Seq.{take-set-lt}
use Rattle.std.proofs.lemmas.List.{get_or_past, drop-set, length-take-le, drop-set-lt, drop_all}
use Rattle.std.proofs.lemmas.Bool.{cases_lt}
use Rattle.timetable.specs.declared.sailing.Sailing.{Sailing}
use Rattle.timetable.specs.declared.query.Leg.{Leg}
use Rattle.timetable.specs.Times.{Leaves}
use Rattle.timetable.specs.Timetables.{Timetable, place_at}
use Rattle.timetable.proofs.Laws.{next-late, next_leaves}
use Rattle.journey.specs.Journeys.{wait, after, Leads, Elsewhere, Apart}
use Rattle.routing.specs.declared.ride.Ride.{Ride}
use Rattle.routing.specs.declared.trip.Trip.{Trip}
use Rattle.routing.specs.declared.label.Label.{Label}
use Rattle.routing.specs.declared.label.Label.TheVariants.{Unseen, Settled}
use Rattle.routing.specs.Labels.{look, ride_of, settled}
use Rattle.routing.specs.Trips.{Makes}
use Rattle.routing.specs.Invariants.{From, Made}
use Rattle.routing.specs.Turns.{Arrival}
use Rattle.routing.specs.Walk.{leg_of, Deeps, Walk, Written}
use Rattle.routing.proofs.Best.{same_sailing}

elsewhere : (ls : List Label) (d e p : ℕ) (ride : Ride) (legs : List Leg) → ride_of (look ls p) ≡ Some ride → ride.depth ≡ d → d ≤ e → Deeps ls e legs → Elsewhere p legs
elsewhere ls d e p ride [] at depth h deeps = tt
elsewhere ls d e p ride (leg ∷ legs) at depth h ((prior, f, g), deeps) = (
  (λ same. let x : prior ≡ ride = some_ride prior ride (sym f ∙ ap (λ k. ride_of (look ls k)) same ∙ at) in let y : prior.depth ≡ ride.depth = ap (λ z. z.depth) x in omega arith),
  elsewhere ls d (e + 1) p ride legs at depth (omega arith) deeps,
)
  where
    some_ride : (a b : Ride) → ◌≡◌ {A = Option Ride} (Some a) (Some b) → a ≡ b
    some_ride a b e = cc

-- depths tell the places apart
pub apart : (ls : List Label) (d : ℕ) (legs : List Leg) → Deeps ls d legs → Apart legs
apart ls d [] deeps = tt
apart ls d (leg ∷ legs) ((ride, e, h), deeps) = (elsewhere ls (d + 1) (d + 1) leg.place ride legs e h (omega arith) deeps, apart ls (d + 1) legs deeps)

-- one leg is written before the others
pub written : (legs : List Leg) (n i : ℕ) (leg : Leg) → i < n → n ≤ length legs → drop i (take n (set legs i leg)) ≡ leg ∷ drop (i + 1) (take n legs)
written legs n i leg h l =
    let e = take-set-lt n legs i leg h in
    let w : i < length (take n legs) = omega (arith, length-take-le n legs l) in
    ap (drop i) e ∙ drop-set (take n legs) i leg w

module _ (T : Timetable) (q : Trip) (ls : List Label) (k : ℕ) (ride : Ride) (made : Made T q ls k ride) (tail : List Leg) (a : ℕ)
    (leads : Leads T q.extra (after T q.extra ride.sailing ride.arrives) tail q.to a) where
  -- the first leg
  pub first_leg : ride.via ≡ None → Makes T q (leg_of k ride ∷ tail) a
  first_leg e =
      let f = subst (λ v. From T q ls ride.sailing ride v) e made.from in (
        ride.sailing,
        record {
          sailing = made.stands;
          quay = f.0;
          leaves = subst (Leaves ride.sailing) (sym f.1) (next_leaves ride.sailing q.minute);
          ready = omega (arith, f.1, next-late ride.sailing q.minute);
          arrives = made.arrives;
        },
        leads,
      )

  -- a later leg
  pub later_leg : (v : ℕ) → ride.via ≡ Some v → (prior : Ride) × (r : Sailing) × (look ls v ≡ Settled prior) × (place_at T v ≡ Some r) × (ride.depth ≡ prior.depth + 1)
      × Leads T q.extra (after T q.extra r prior.arrives) (leg_of k ride ∷ tail) q.to a
  later_leg v e =
      let f = subst (λ v₂. From T q ls ride.sailing ride v₂) e made.from in
      let (prior, r, settled, stands, quay, leaves, depth) = f in (
        prior,
        r,
        settled,
        stands,
        depth,
        (
          ride.sailing,
          record {
            sailing = made.stands;
            quay = quay;
            leaves = subst (Leaves ride.sailing) (sym leaves) (next_leaves ride.sailing (prior.arrives + wait T q.extra r ride.sailing));
            ready = omega (arith, leaves, next-late ride.sailing (prior.arrives + wait T q.extra r ride.sailing));
            arrives = made.arrives;
          },
          leads,
        ),
      )

pub settled_inside : (ls : List Label) (k : ℕ) (prior : Ride) → look ls k ≡ Settled prior → k < length ls
settled_inside ls k prior e = elim (cases_lt k (length ls)) [
  | inl h ↦ h
  | inr h ↦ let n : look ls k ≡ Unseen = get_or_past ls k Unseen h in let z : ◌≡◌ {A = ℕ} 0 1 = cc in omega arith
]

same_settled : (a b : Ride) → Settled a ≡ Settled b → a ≡ b
same_settled a b e = cc

-- a labelled place has a depth of at least 1
depth_pos : (T : Timetable) (q : Trip) (ls : List Label) (s : Sailing) (ride : Ride) (via : Option ℕ) → From T q ls s ride via → 0 < ride.depth
depth_pos T q ls s ride None f = omega (arith, f.2)
depth_pos T q ls s ride (Some k) f = omega (arith, f.6)

pub made_pos : (T : Timetable) (q : Trip) (ls : List Label) (p : ℕ) (ride : Ride) → Made T q ls p ride → 0 < ride.depth
made_pos T q ls p ride m = depth_pos T q ls ride.sailing ride ride.via m.from

module _ (T : Timetable) (q : Trip) (ls : List Label) (last : ℕ) (ride : Ride) (arrival : Arrival T q ls last ride) where
  pub walk_starts : (legs : List Leg) → ride.depth ≤ length legs → Walk T q ls legs ride.depth ride.arrives last ride
  walk_starts legs room =
      let m = arrival.inv.made last ride (ap ride_of arrival.stands) in
      let none : drop ride.depth (take ride.depth legs) ≡ [] = drop_all ride.depth (take ride.depth legs) (omega (arith, length-take-le ride.depth legs room)) in
      record {
        made = m;
        labelled = ap ride_of arrival.stands;
        inside = omega arith;
        leads = subst (λ xs. Leads T q.extra (after T q.extra ride.sailing ride.arrives) xs q.to ride.arrives) (sym none) (arrival.to, refl);
        deeps = subst (λ xs. Deeps ls ride.depth xs) (sym none) tt;
      }

  module _ (legs : List Leg) (at : ℕ) (cur : Ride) (room : ride.depth ≤ length legs) (walk : Walk T q ls legs ride.depth ride.arrives at cur) where
    written_here : (d : ℕ) → cur.depth ≡ d + 1 → drop d (take ride.depth (set legs (cur.depth - 1) (leg_of at cur))) ≡ leg_of at cur ∷ drop cur.depth (take ride.depth legs)
    written_here d e =
        let i : cur.depth - 1 ≡ d = omega arith in
        let inside = walk.inside in
        ap (λ k. drop d (take ride.depth (set legs k (leg_of at cur)))) i ∙ written legs ride.depth d (leg_of at cur) (omega arith) room
        ∙ ap (λ k. leg_of at cur ∷ drop k (take ride.depth legs)) (sym e)

    deeps_here : (d : ℕ) → cur.depth ≡ d + 1 → Deeps ls d (leg_of at cur ∷ drop cur.depth (take ride.depth legs))
    deeps_here d e = ((cur, walk.labelled, e), subst (λ k. Deeps ls k (drop cur.depth (take ride.depth legs))) e walk.deeps)

    pub walk_goes : (k : ℕ) (before : Ride) → cur.via ≡ Some k → look ls k ≡ Settled before
        → Walk T q ls (set legs (cur.depth - 1) (leg_of at cur)) ride.depth ride.arrives k before
    walk_goes k before via settled =
        let (prior, r, is, stands, depth, leads) = later_leg T q ls at cur walk.made _ ride.arrives walk.leads k via in
        let same : prior ≡ before = same_settled prior before (sym is ∙ settled) in
        let deep : cur.depth ≡ before.depth + 1 = depth ∙ ap (λ x. x.depth + 1) same in
        let m = arrival.inv.made k before (ap ride_of settled) in
        let sailing : r ≡ before.sailing = same_sailing T k r before.sailing stands m.stands in
        let w = written_here before.depth deep in
        let inside = walk.inside in
        let L : Sailing → Ride → List Leg → Type 0 = λ x y xs. Leads T q.extra (after T q.extra x y.arrives) xs q.to ride.arrives in
        let tail = leg_of at cur ∷ drop cur.depth (take ride.depth legs) in
        record {
          made = m;
          labelled = ap ride_of settled;
          inside = omega arith;
          leads = subst (L before.sailing before) (sym w) (subst (λ x. L x before tail) sailing (subst (λ y. L r y tail) same leads));
          deeps = subst (Deeps ls before.depth) (sym w) (deeps_here before.depth deep);
        }

    pub walk_ends : cur.via ≡ None → Written T q (set legs (cur.depth - 1) (leg_of at cur)) ride.depth ride.arrives
    walk_ends via =
        let f = subst (λ v. From T q ls cur.sailing cur v) via walk.made.from in
        let one : cur.depth ≡ 0 + 1 = f.2 in
        let w = written_here 0 one in
        let j = first_leg T q ls at cur walk.made _ ride.arrives walk.leads via in
        record {
          makes = subst (λ xs. Makes T q xs ride.arrives) (sym w) j;
          apart = subst Apart (sym w) (apart ls 0 (leg_of at cur ∷ drop cur.depth (take ride.depth legs)) (deeps_here 0 one));
        }

    pub walk_has : (k : ℕ) → cur.via ≡ Some k → (prior : Ride) × (look ls k ≡ Settled prior)
    walk_has k via = let (prior, r, is, stands, depth, leads) = later_leg T q ls at cur walk.made _ ride.arrives walk.leads k via in (prior, is)

    pub walk_less : (k : ℕ) (before : Ride) → cur.via ≡ Some k → look ls k ≡ Settled before → before.depth < cur.depth
    walk_less k before via settled =
        let (prior, r, is, stands, depth, leads) = later_leg T q ls at cur walk.made _ ride.arrives walk.leads k via in
        let deep : cur.depth ≡ before.depth + 1 = depth ∙ ap (λ x. x.depth + 1) (same_settled prior before (sym is ∙ settled)) in
        omega arith

    -- the rest of the buffer stands
    pub walk_rest : drop ride.depth (set legs (cur.depth - 1) (leg_of at cur)) ≡ drop ride.depth legs
    walk_rest = drop-set-lt ride.depth legs (cur.depth - 1) (leg_of at cur) (omega (arith, walk.inside, made_pos T q ls at cur walk.made))
