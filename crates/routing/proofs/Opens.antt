-- The quays that are open. Assumes nothing.
use Rattle.std.proofs.Common.{◌≡◌, ℕ, ◌+◌, ◌<◌, ◌≤◌, Bool, true, false, cond, List, length, get_or, set, Some, None, Option, sym, refl, ap, ◌∙◌, subst, ⊎_elim, arith}
use Rattle.std.proofs.lemmas.List.{get_or-set_same, get_or-set_other}
use Rattle.std.proofs.lemmas.Bool.{cases_eq}
use Rattle.timetable.specs.declared.sailing.Sailing.{Sailing}
use Rattle.timetable.specs.declared.span.Span.{Span}
use Rattle.timetable.specs.Times.{next, continues}
use Rattle.timetable.specs.Timetables.{Timetable, change_at, place_at, span_at}
use Rattle.timetable.proofs.Laws.{next-late, next_mono, continues_means}
use Rattle.routing.specs.declared.ride.Ride.{Ride}
use Rattle.routing.specs.declared.ride.Origin.{Origin}
use Rattle.routing.specs.declared.ride.Origin.TheVariants.{Start, Via}
use Rattle.routing.specs.declared.trip.Trip.{Trip}
use Rattle.routing.specs.declared.label.Label.{Label}
use Rattle.routing.specs.declared.label.Label.TheVariants.{Unseen, Waiting, Settled}
use Rattle.routing.specs.Labels.{look, ride_of, waiting_of}
use Rattle.routing.specs.Invariants.{LeavesBy, Covers, Better}
use Rattle.routing.specs.Origins.{quay_of, minute_of, due_of, stand_of}
use Rattle.routing.specs.Relaxing.{Rooted, Ready, Through, late, Opened}
use Rattle.routing.proofs.Best.{leaves_later, stands_inside}
use Rattle.routing.proofs.Steps.{covers_better, better_refl}

pub opened_better : (T : Timetable) (q : Trip) (ls ms : List Label) (ps : List (Option Span)) (m : ℕ) → Better ls ms → Opened T q ls ps m → Opened T q ms ps m
opened_better T q ls ms ps m better o v span e = let (h, covers) = o v span e in (h, covers_better T ls ms (late T q v m) 0 (length T.places) better covers)

late-later : (T : Timetable) (q : Trip) (ls : List Label) (v m n : ℕ) → m ≤ n → Covers T ls (late T q v m) 0 (length T.places) → Covers T ls (late T q v n) 0 (length T.places)
late-later T q ls v m n h covers p s a b e f =
    let w = change_at T v + q.extra in
    leaves_later (look ls p) _ _ (next_mono s (m + w) (n + w) (omega arith)) (covers p s a b e f)

pub opened_later : (T : Timetable) (q : Trip) (ls : List Label) (ps : List (Option Span)) (m n : ℕ) → m ≤ n → Opened T q ls ps m → Opened T q ls ps n
opened_later T q ls ps m n h o v span e = let (holds, covers) = o v span e in (holds, late-later T q ls v m n h covers)

-- who changes leaves no earlier than who comes from the origin
due_within : (T : Timetable) (q : Trip) (ls : List Label) (o : Origin) → Rooted T q ls o → (s : Sailing) → due_of o s ≤ minute_of o + (change_at T (quay_of o) + q.extra)
due_within T q ls (Start a m) r s = omega arith
due_within T q ls (Via k ride w) (e, f, g) s = go (continues s ride.sailing)
  where
    go : (b : Bool) → ride.arrives + cond b 0 w ≤ ride.arrives + (change_at T ride.sailing.to + q.extra)
    go true = omega arith
    go false = omega arith

some_span : (a b : Span) → ◌≡◌ {A = Option Span} (Some a) (Some b) → a ≡ b
some_span a b e = cc

-- one quay more is open
pub opened_more : (T : Timetable) (q : Trip) (o : Origin) (ls ms : List Label) (ks : List (Option ℕ)) (ps : List (Option Span)) (span : Span) → quay_of o < length ps
    → span ≡ span_at T (quay_of o) → Opened T q ls ps (minute_of o) → Through T q o ls ms ks 0 (length T.places) → Opened T q ms (set ps (quay_of o) (Some span)) (minute_of o)
opened_more T q o ls ms ks ps span h holds opened t v new e = ⊎_elim
    (λ same.
    let is : span ≡ new = some_span span new (sym (get_or-set_same ps (quay_of o) (Some span) None h) ∙ ap (λ x. get_or (set ps (quay_of o) (Some span)) x None) (sym same) ∙ e) in
    let P : ℕ → Type 0 = λ x. (new ≡ span_at T x) × Covers T ms (late T q x (minute_of o)) 0 (length T.places) in
    subst P (sym same) (
      sym is ∙ holds,
      λ p s lo hi f g. leaves_later (look ms p) _ _
          (next_mono s (due_of o s) (minute_of o + (change_at T (quay_of o) + q.extra)) (due_within T q ms o t.ready.rooted s))
          (t.covers p s lo hi f g),
    ))
    (λ ne. opened_better T q ls ms ps (minute_of o) t.better opened v new (sym (get_or-set_other ps (quay_of o) v (Some span) None ne) ∙ e))
    (cases_eq v (quay_of o))

-- at an open quay nothing is to do at a place that does not wait, or does not go on
module _ (T : Timetable) (q : Trip) (ls : List Label) (ks : List (Option ℕ)) (k w : ℕ) (ride : Ride) (ready : Ready T q (Via k ride w) ls ks)
    (open' : Covers T ls (late T q ride.sailing.to ride.arrives) 0 (length T.places)) (p : ℕ) where
  pub skipped : ((x : Sailing) (old : Ride) → look ls p ≡ Waiting old → place_at T p ≡ Some x → continues x ride.sailing ≡ true → ⊥) → Through T q (Via k ride w) ls ls ks p (p + 1)
  skipped none = record { ready = ready; better = better_refl ls; covers = at }
    where
      by_label : (j : ℕ) (x : Sailing) (l : Label) → look ls j ≡ l → j ≡ p → place_at T j ≡ Some x → LeavesBy l (next x (ride.arrives + (change_at T ride.sailing.to + q.extra)))
          → (b : Bool) → continues x ride.sailing ≡ b → LeavesBy l (next x (ride.arrives + cond b 0 w))
      by_label j x Unseen at_j same e within b is = absurd within
      by_label j x (Settled old) at_j same e within b is =
          let low = ready.inv.low j old at_j in
          let made = ready.inv.made j old (ap ride_of at_j) in
          let n = next-late x (ride.arrives + cond b 0 w) in
          omega (arith, made.arrives)
      by_label j x (Waiting old) at_j same e within true is = absurd (none x old (ap (look ls) (sym same) ∙ at_j) (ap (place_at T) (sym same) ∙ e) is)
      by_label j x (Waiting old) at_j same e within false is = subst (λ y. old.leaves ≤ next x (ride.arrives + y)) (sym ready.rooted.2) within

      at : Covers T ls (stand_of (Via k ride w)) p (p + 1)
      at j x lo hi e f =
          let same : j ≡ p = omega arith in
          by_label j x (look ls j) refl same e (open' j x (omega arith) (stands_inside T j x e) e f) (continues x ride.sailing) refl

pub waiting_is : (l : Label) (ride : Ride) → Some ride ≡ waiting_of l → l ≡ Waiting ride
waiting_is Unseen ride e = let z : ◌≡◌ {A = ℕ} 0 1 = cc in absurd (omega arith)
waiting_is (Waiting old) ride e = sym (ap {B = Label} Waiting (same ride old e))
  where
    same : (a b : Ride) → ◌≡◌ {A = Option Ride} (Some a) (Some b) → a ≡ b
    same a b e = cc
waiting_is (Settled old) ride e = let z : ◌≡◌ {A = ℕ} 0 1 = cc in absurd (omega arith)

pub not_waiting : (l : Label) (old : Ride) → None ≡ waiting_of l → l ≡ Waiting old → ⊥
not_waiting l old e f = let g = ap waiting_of f in let z : ◌≡◌ {A = ℕ} 0 1 = cc in omega arith

pub continues_from : (s r : Sailing) → continues s r ≡ true → s.from ≡ r.to
continues_from s r h = ((continues_means s r).0 h).same_quay

pub differ : (b : Bool) → b ≡ true → false ≡ b → ⊥
differ b e f = let z : ◌≡◌ {A = ℕ} 0 1 = cc in omega arith
