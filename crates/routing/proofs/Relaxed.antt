-- One place after another is reached. Assumes nothing.
use Rattle.std.proofs.Common.{◌≡◌, ℕ, ◌+◌, ◌*◌, ◌<◌, ◌≤◌, Bool, true, false, cond, List, length, set, Some, Option, sym, refl, ap, ◌∙◌, subst, ⊎_elim, arith}
use Rattle.std.proofs.lemmas.List.{length-set}
use Rattle.std.proofs.lemmas.Bool.{cases_lt}
use Rattle.timetable.specs.declared.sailing.Sailing.{Sailing}
use Rattle.timetable.specs.Times.{next, continues}
use Rattle.timetable.specs.Timetables.{Timetable, place_at}
use Rattle.timetable.proofs.Laws.{length_cycle, next-late, next_soon}
use Rattle.routing.specs.declared.ride.Origin.{Origin}
use Rattle.routing.specs.declared.ride.Origin.TheVariants.{Start, Via}
use Rattle.routing.specs.declared.trip.Trip.{Trip}
use Rattle.routing.specs.declared.label.Label.{Label}
use Rattle.routing.specs.Labels.{look, ride_of, Linked, reach, settled}
use Rattle.routing.specs.Limits.{last_minute, long_change, long_leg}
use Rattle.routing.specs.Invariants.{LeavesBy, From, Made, Inv, Better}
use Rattle.routing.specs.Origins.{quay_of, minute_of, due_of, latest_due, via_of, depth_of, stand_of, ride_from, Small}
use Rattle.routing.specs.Relaxing.{Rooted, Ready, Through}
use Rattle.routing.proofs.Best.{stands_inside, same_sailing}
use Rattle.routing.proofs.Steps.{better_keeps, better_refl, better_trans, covers_better, reached, reached_better, reached_by, settled-reach, settled_le}

pub rooted_better : (T : Timetable) (q : Trip) (ls ms : List Label) (o : Origin) → Better ls ms → Rooted T q ls o → Rooted T q ms o
rooted_better T q ls ms (Start a m) b r = r
rooted_better T q ls ms (Via k ride w) b (e, f, g) = (better_keeps ls ms b k ride e, f, g)

-- a barge that sails on is due no later than one to change to
pub due-latest : (o : Origin) (s : Sailing) → due_of o s ≤ latest_due o
due-latest (Start quay m) s = omega arith
due-latest (Via k ride w) s = go (continues s ride.sailing)
  where
    go : (b : Bool) → ride.arrives + cond b 0 w ≤ ride.arrives + w
    go true = omega arith
    go false = omega arith

-- the numbers of an origin
pub record Bounds (o : Origin) (ls : List Label) : Type 0 where
  pub minute : minute_of o ≤ last_minute + long_leg * depth_of o
  pub depth : depth_of o ≤ settled ls
  pub due_late : (s : Sailing) → minute_of o ≤ due_of o s
  pub latest_soon : latest_due o ≤ minute_of o + long_change

module _ (T : Timetable) (q : Trip) (ls : List Label) (ks : List (Option ℕ)) where
  pub bounds : (o : Origin) → Ready T q o ls ks → Bounds o ls
  bounds (Start quay m) ready = record {
    minute = omega (arith, ready.rooted.1, ready.fair.minute);
    depth = omega arith;
    due_late = λ s. omega arith;
    latest_soon = omega arith;
  }
  bounds (Via k ride w) ready =
      let (e, f, g) = ready.rooted in
      let made = ready.inv.made k ride (ap ride_of e) in
      let low = ready.inv.low k ride e in
      let change = ready.fair.lawful.change_day ride.sailing.to in
      let class = ready.fair.extra in
      record {
        minute = made.bound;
        depth = low.1;
        due_late = λ s. omega arith;
        latest_soon = omega arith;
      }

  from_origin : (o : Origin) (s : Sailing) → Rooted T q ls o → s.from ≡ quay_of o → From T q ls s (ride_from o s) (via_of o)
  from_origin (Start a m) s (e, f) quay = (quay ∙ e, ap (next s) f, omega arith)
  from_origin (Via k ride w) s (e, f, g) quay = (ride, ride.sailing, e, f, quay, ap (λ x. next s (ride.arrives + cond (continues s ride.sailing) 0 x)) g, refl)

  module _ (o : Origin) (ready : Ready T q o ls ks) (p : ℕ) where
    pub small : (s : Sailing) → place_at T p ≡ Some s → Small o s
    small s e =
        let b = bounds o ready in
        let due = b.latest_soon in
        let within = ready.fair.lawful.within p s e in
        let le = settled_le ls in
        let few = ready.fair.lawful.few_places in
        record { due = omega (arith, ready.sized); depth = omega (arith, ready.sized); dep = within.dep_day; arr = within.arr_day }

    made_from : (s : Sailing) → place_at T p ≡ Some s → s.from ≡ quay_of o → Made T q ls p (ride_from o s)
    made_from s e quay =
        let b = bounds o ready in
        let due = due-latest o s in
        let last = b.latest_soon in
        let soon = next_soon s (ready.fair.lawful.within p s e).dep_day (due_of o s) in
        let short = (length_cycle s).short in
        record { stands = e; arrives = refl; bound = omega arith; from = from_origin o s ready.rooted quay }

    -- nothing is to do at the place
    pub passed : ((s : Sailing) → place_at T p ≡ Some s → s.from ≡ quay_of o → ⊥) → Through T q o ls ls ks p (p + 1)
    passed none = record { ready = ready; better = better_refl ls; covers = λ k s lo hi e f. absurd (none s (ap (place_at T) (omega arith) ∙ e) f) }

    -- the place is reached
    pub stepped : (s : Sailing) → place_at T p ≡ Some s → s.from ≡ quay_of o → (ms : List Label) (ks' : List (Option ℕ))
        → ms ≡ set ls p (reach (look ls p) (ride_from o s)) → Linked ms ks' → Through T q o ls ms ks' p (p + 1)
    stepped s e quay ms ks' is linked =
        let new = ride_from o s in
        let b = bounds o ready in
        let due = b.due_late s in
        let late = next-late s (due_of o s) in
        let p< : p < length ls = omega (arith, stands_inside T p s e, ready.sized) in
        let made = made_from s e quay in
        let later : minute_of o ≤ new.leaves = omega arith in
        let deep : new.depth ≤ settled ls + 1 = omega (arith, b.depth) in
        let r = reached T q ls p (minute_of o) (settled ls) new p< ready.inv made later deep in
        let better = reached_better T q ls p (minute_of o) (settled ls) new p< ready.inv made later deep in
        let within = reached_by T q ls p (minute_of o) (settled ls) new p< ready.inv made later deep in
        let same : settled (set ls p (reach (look ls p) new)) ≡ settled ls = settled-reach ls p (reach (look ls p) new) p< r.1 in
        let inv : Inv T q (set ls p (reach (look ls p) new)) (minute_of o) (settled (set ls p (reach (look ls p) new))) =
        subst (λ c. Inv T q (set ls p (reach (look ls p) new)) (minute_of o) c) (sym same) r.0 in
        let to : (λ (xs : List Label). Inv T q xs (minute_of o) (settled xs)) ms = subst (λ xs. Inv T q xs (minute_of o) (settled xs)) (sym is) inv in
        let better' : Better ls ms = subst (λ xs. Better ls xs) (sym is) better in
        record {
          ready = record {
            fair = ready.fair;
            sized = ap length is ∙ length-set ls p _ ∙ ready.sized;
            linked = linked;
            inv = to;
            rooted = rooted_better T q ls ms o better' ready.rooted;
          };
          better = better';
          covers = λ k s₂ lo hi e₂ f.
              let k-is : p ≡ k = omega arith in
              let s-is : s ≡ s₂ = same_sailing T k s s₂ (ap (place_at T) (sym k-is) ∙ e) e₂ in
              subst (λ j. LeavesBy (look ms j) (next s₂ (due_of o s₂))) k-is
              (subst (λ z. LeavesBy (look ms p) (next z (due_of o z))) s-is
              (subst (λ xs. LeavesBy (look xs p) (next s (due_of o s))) (sym is) within));
        }

-- two spans, one after the other
pub joined : (T : Timetable) (q : Trip) (o : Origin) (ls ms ns : List Label) (ks ks' : List (Option ℕ)) (a b c : ℕ)
    → Through T q o ls ms ks a b → Through T q o ms ns ks' b c → Through T q o ls ns ks' a c
joined T q o ls ms ns ks ks' a b c t u = record {
  ready = u.ready;
  better = better_trans ls ms ns t.better u.better;
  covers = λ k s lo hi e f. ⊎_elim
      (λ h. covers_better T ms ns (stand_of o) a b u.better t.covers k s lo h e f)
      (λ h. u.covers k s h hi e f)
      (cases_lt k b);
}

pub none_yet : (T : Timetable) (q : Trip) (o : Origin) (ls : List Label) (ks : List (Option ℕ)) (a : ℕ) → Ready T q o ls ks → Through T q o ls ls ks a a
none_yet T q o ls ks a ready = record { ready = ready; better = better_refl ls; covers = λ k s lo hi e f. absurd (omega arith) }
