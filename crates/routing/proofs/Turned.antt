-- A turn of the search. Assumes nothing.
use Rattle.std.proofs.Common.{◌≡◌, ℕ, suc, ◌+◌, ◌<◌, ◌≤◌, List, [], ◌∷◌, length, set, Some, None, Option, sym, refl, ap, ◌∙◌, subst, inl, inr, arith}
use Rattle.std.proofs.lemmas.List.{get_or_past, get_or-set_same, length-set}
use Rattle.std.proofs.lemmas.Bool.{cases_lt}
use Rattle.timetable.specs.declared.sailing.Sailing.{Sailing}
use Rattle.timetable.specs.declared.span.Span.{Span}
use Rattle.timetable.specs.Timetables.{Timetable, change_at, place_at, span_at, Lawful}
use Rattle.journey.specs.Journeys.{after}
use Rattle.queue.specs.Lines.{Waits, First}
use Rattle.routing.specs.declared.ride.Ride.{Ride}
use Rattle.routing.specs.declared.ride.Origin.{Origin}
use Rattle.routing.specs.declared.ride.Origin.TheVariants.{Start, Via}
use Rattle.routing.specs.declared.trip.Trip.{Trip}
use Rattle.routing.specs.declared.label.Label.{Label}
use Rattle.routing.specs.declared.label.Label.TheVariants.{Unseen, Waiting, Settled}
use Rattle.routing.specs.Labels.{look, ride_of, key_of, Linked, settled}
use Rattle.routing.specs.Trips.{Unmade}
use Rattle.routing.specs.Invariants.{Inv, Covers, Better}
use Rattle.routing.specs.Origins.{quay_of, stand_of}
use Rattle.routing.specs.Relaxing.{Ready, Through, late, Opened}
use Rattle.routing.specs.Turns.{Going, Settles, Arrival}
use Rattle.routing.proofs.Best.{journey_sooner}
use Rattle.routing.proofs.Links.{linked_set}
use Rattle.routing.proofs.Opens.{opened_later}
use Rattle.routing.proofs.Steps.{settle_inv, settle_closed, settle_leaves, settled_more, one_betters}

-- what is spanned is all that leaves a quay
pub span_all : (T : Timetable) (v : ℕ) (span : Span) → Lawful T → span ≡ span_at T v → (p : ℕ) (s : Sailing) → place_at T p ≡ Some s → s.from ≡ v → (span.start ≤ p) × (p < span.end)
span_all T v span lawful is p s e f =
    subst (λ x. (x.start ≤ p) × (p < x.end)) (ap (span_at T) f ∙ sym is) (lawful.spanned p s e)

pub span_order : (T : Timetable) (v : ℕ) (span : Span) → Lawful T → span ≡ span_at T v → span.start ≤ span.end
span_order T v span lawful is = subst (λ x. x.start ≤ x.end) (sym is) (lawful.span_order v)

pub span_end : (T : Timetable) (v : ℕ) (span : Span) → Lawful T → span ≡ span_at T v → span.end ≤ length T.places
span_end T v span lawful is = subst (λ x. x.end ≤ length T.places) (sym is) (lawful.span_end v)

-- all places from those of the span
pub whole : (T : Timetable) (q : Trip) (o : Origin) (ls ms : List Label) (ks : List (Option ℕ)) (span : Span) → span ≡ span_at T (quay_of o)
    → Through T q o ls ms ks span.start span.end → Through T q o ls ms ks 0 (length T.places)
whole T q o ls ms ks span is t = record {
  ready = t.ready;
  better = t.better;
  covers = λ p s lo hi e f. let h = span_all T (quay_of o) span t.ready.fair.lawful is p s e f in t.covers p s h.0 h.1 e f;
}

-- the quay of an origin is one of the timetable's
pub origin_quay : (T : Timetable) (q : Trip) (o : Origin) (ls : List Label) (ks : List (Option ℕ)) → Ready T q o ls ks → quay_of o < length T.changes
origin_quay T q (Start quay m) ls ks ready = omega (arith, ready.rooted.0, ready.fair.from)
origin_quay T q (Via k ride w) ls ks ready = (ready.fair.lawful.within k ride.sailing ready.rooted.1).to_quay

some_key : (a b : ℕ) → ◌≡◌ {A = Option ℕ} (Some a) (Some b) → a ≡ b
some_key a b e = cc

waits_at : (l : Label) (k : ℕ) → Some k ≡ key_of l → (ride : Ride) × (l ≡ Waiting ride) × (k ≡ ride.arrives)
waits_at Unseen k e = let z : ◌≡◌ {A = ℕ} 0 1 = cc in absurd (omega arith)
waits_at (Waiting ride) k e = (ride, refl, some_key k ride.arrives e)
waits_at (Settled ride) k e = let z : ◌≡◌ {A = ℕ} 0 1 = cc in absurd (omega arith)

-- nothing waits in the line, so no place waits
pub none_first : (ls : List Label) (ks : List (Option ℕ)) → Linked ls ks → ((i k : ℕ) → Waits ks i k → ⊥) → (p : ℕ) (ride : Ride) → look ls p ≡ Waiting ride → ⊥
none_first ls ks linked none p ride e = none p ride.arrives (linked.1 p ∙ ap key_of e)

module _ (ls : List Label) (ks : List (Option ℕ)) (p key : ℕ) (linked : Linked ls ks) (f : First ks p key) where
  pub found : (ride : Ride) × (look ls p ≡ Waiting ride) × (key ≡ ride.arrives)
  found = waits_at (look ls p) key (sym f.waits ∙ linked.1 p)

  pub first_inside : p < length ls
  first_inside = elim (cases_lt p (length ls)) [
    | inl h ↦ h
    | inr h ↦ let n : look ls p ≡ Unseen = get_or_past ls p Unseen h in
        let w = found.1 in
        let z : ◌≡◌ {A = ℕ} 0 1 = cc in absurd (omega arith)
  ]

  pub settle_first_lem : (ride : Ride) → look ls p ≡ Waiting ride → (ms : List (Option ℕ)) → ms ≡ set ks p None → Settles ls p ride (set ls p (Settled ride)) ms
  settle_first_lem ride e ms is = record {
    inside = first_inside;
    waits = e;
    first = λ k other w.
        let (ride₂, e₂, at) = found in
        let same : ride₂ ≡ ride = same_waits ride₂ ride (sym e₂ ∙ e) in
        let at₂ : key ≡ ride.arrives = at ∙ ap (λ x. x.arrives) same in
        omega (arith, f.least k other.arrives (linked.1 k ∙ ap key_of w));
    after = refl;
    linked = subst (λ ns. Linked (set ls p (Settled ride)) ns) (sym is) (linked_set ls ks p (Settled ride) first_inside linked);
  }
    where
      same_waits : (a b : Ride) → Waiting a ≡ Waiting b → a ≡ b
      same_waits a b e = cc

pub settled_better : (ls ms : List Label) → length ls ≡ length ms → Better ls ms → settled ms ≡ settled ls
settled_better [] [] e b = refl
settled_better [] (m ∷ ms) e b = absurd (omega arith)
settled_better (l ∷ ls) [] e b = absurd (omega arith)
settled_better (l ∷ ls) (m ∷ ms) e b = omega (arith, one_betters l m (b 0), settled_better ls ms (omega arith) (λ p. b (suc p)))

module _ (T : Timetable) (q : Trip) (ls : List Label) (ks : List (Option ℕ)) (ps : List (Option Span)) (going : Going T q ls ks ps) where
  pub none_waits : ((p : ℕ) (ride : Ride) → look ls p ≡ Waiting ride → ⊥) → Unmade T q
  none_waits none legs a j =
      let s = journey_sooner T q ls going.floor (settled ls) going.inv going.closed legs a going.apart j in
      none s.place s.ride s.waits

  module _ (p : ℕ) (ride : Ride) (ms : List Label) (ks' : List (Option ℕ)) (settles : Settles ls p ride ms ks') where
    pub stands : place_at T p ≡ Some ride.sailing
    stands = (going.inv.made p ride (ap ride_of settles.waits)).stands

    more : (settled (set ls p (Settled ride)) ≡ settled ls + 1) × (settled ls < length ls)
    more = settled_more ls p ride settles.inside settles.waits

    inv_after : Inv T q ms ride.arrives (settled ms)
    inv_after =
        let i = settle_inv T q ls p going.floor (settled ls) ride settles.inside going.inv settles.waits settles.first in
        let j : Inv T q (set ls p (Settled ride)) ride.arrives (settled (set ls p (Settled ride))) = subst (λ c. Inv T q (set ls p (Settled ride)) ride.arrives c) (sym more.0) i in
        subst (λ xs. Inv T q xs ride.arrives (settled xs)) (sym settles.after) j

    sized_after : length ms ≡ length T.places
    sized_after = ap length settles.after ∙ length-set ls p (Settled ride) ∙ going.sized

    settled_here : look ms p ≡ Settled ride
    settled_here = ap (λ xs. look xs p) settles.after ∙ get_or-set_same ls p (Settled ride) Unseen settles.inside

    pub opened_after : Opened T q ms ps ride.arrives
    opened_after = opened_later T q ms ps going.floor ride.arrives (going.inv.high p ride settles.waits).0
        (λ v span e. let (h, covers) = going.opened v span e in (
          h,
          subst (λ xs. Covers T xs (late T q v going.floor) 0 (length T.places)) (sym settles.after)
              (λ k s lo hi f g. settle_leaves T q ls p going.floor (settled ls) ride settles.inside going.inv settles.waits settles.first k _ (covers k s lo hi f g)),
        ))

    pub arrived : ride.sailing.to ≡ q.to → Arrival T q ms p ride
    arrived to = record {
      floor = ride.arrives;
      inv = inv_after;
      sized = sized_after;
      lawful = going.fair.lawful;
      stands = settled_here;
      to = to;
      soonest = λ legs b j.
          let w = journey_sooner T q ls going.floor (settled ls) going.inv going.closed legs b going.apart j in
          omega (arith, settles.first w.place w.ride w.waits, w.arrives);
    }

    pub onward : (w : ℕ) → w ≡ change_at T ride.sailing.to + q.extra → Ready T q (Via p ride w) ms ks'
    onward w e = record {
      fair = going.fair;
      sized = sized_after;
      linked = settles.linked;
      inv = inv_after;
      rooted = (settled_here, stands, e);
    }

    pub gone : (w : ℕ) → w ≡ change_at T ride.sailing.to + q.extra → (ride.sailing.to ≡ q.to → ⊥) → (ns : List Label) (ks'' : List (Option ℕ)) (ps' : List (Option Span))
        → length ps' ≡ length ps → Opened T q ns ps' ride.arrives
        → Through T q (Via p ride w) ms ns ks'' 0 (length T.places) → Going T q ns ks'' ps' × (settled ns ≡ settled ls + 1)
    gone w e away ns ks'' ps' long opened t =
        let better : Better (set ls p (Settled ride)) ns = subst (λ xs. Better xs ns) settles.after t.better in
        let covers : Covers T ns (after T q.extra ride.sailing ride.arrives) 0 (length T.places) =
        subst (λ x. Covers T ns (stand_of (Via p ride x)) 0 (length T.places)) e t.covers in (
          record {
            floor = ride.arrives;
            fair = going.fair;
            apart = going.apart;
            sized = t.ready.sized;
            linked = t.ready.linked;
            inv = t.ready.inv;
            closed = settle_closed T q ls p going.floor (settled ls) ride settles.inside going.inv settles.waits settles.first ride.sailing ns going.closed stands away better covers;
            many = omega (arith, going.many);
            opened = opened;
          },
          settled_better ms ns (sized_after ∙ sym t.ready.sized) t.better ∙ ap settled settles.after ∙ more.0,
        )
