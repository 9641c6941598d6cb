-- No journey arrives before the first waiting place. Assumes nothing.
use Rattle.std.proofs.Common.{◌≡◌, ℕ, ◌+◌, ◌<◌, ◌≤◌, List, [], ◌∷◌, length, Some, None, refl, ap, ◌∙◌, inl, inr, arith}
use Rattle.std.proofs.lemmas.List.{get_or_past}
use Rattle.std.proofs.lemmas.Bool.{cases_lt}
use Rattle.timetable.specs.declared.sailing.Sailing.{Sailing}
use Rattle.timetable.specs.declared.query.Leg.{Leg}
use Rattle.timetable.specs.Times.{length_of, next}
use Rattle.timetable.specs.Timetables.{Timetable, place_at}
use Rattle.timetable.proofs.Laws.{next_least, next_mono}
use Rattle.journey.specs.Journeys.{wait, Stand, start, after, Leads}
use Rattle.journey.proofs.Follows.{leads_forward}
use Rattle.routing.specs.declared.trip.Trip.{Trip}
use Rattle.routing.specs.declared.label.Label.{Label}
use Rattle.routing.specs.declared.label.Label.TheVariants.{Unseen, Waiting, Settled}
use Rattle.routing.specs.Labels.{look, ride_of}
use Rattle.routing.specs.Trips.{Makes}
use Rattle.routing.specs.Invariants.{LeavesBy, Inv, Covers, Closed, Sooner}

-- a sailing stands at a place of the book
pub stands_inside : (T : Timetable) (p : ℕ) (s : Sailing) → place_at T p ≡ Some s → p < length T.places
stands_inside T p s e = elim (cases_lt p (length T.places)) [
  | inl h ↦ h
  | inr h ↦ let n : place_at T p ≡ None = get_or_past T.places p None h in let z : ◌≡◌ {A = ℕ} 0 1 = cc in omega arith
]

pub same_sailing : (T : Timetable) (p : ℕ) (s r : Sailing) → place_at T p ≡ Some s → place_at T p ≡ Some r → s ≡ r
same_sailing T p s r d e = cc

pub leaves_later : (l : Label) (m n : ℕ) → m ≤ n → LeavesBy l m → LeavesBy l n
leaves_later Unseen m n h w = w
leaves_later (Waiting ride) m n h w = omega arith
leaves_later (Settled ride) m n h w = omega arith

-- who may leave later is covered too
pub covers_later : (T : Timetable) (c : ℕ) (ls : List Label) (r : Sailing) (m n k : ℕ) → m ≤ n → Covers T ls (after T c r m) 0 k → Covers T ls (after T c r n) 0 k
covers_later T c ls r m n k h covers p s a b e f =
    leaves_later (look ls p) _ _ (next_mono s (m + wait T c r s) (n + wait T c r s) (omega arith)) (covers p s a b e f)

module _ (T : Timetable) (q : Trip) (ls : List Label) (floor count : ℕ) (inv : Inv T q ls floor count) (closed : Closed T q ls) where
  -- from a stand that is covered, each journey to the end is led past a waiting place
  pub sooner : (here : Stand) (legs : List Leg) (a : ℕ) → Covers T ls here 0 (length T.places)
      → ((s : Sailing) → here.minute ≤ here.due s) → (here.quay ≡ q.to → ⊥) → Leads T q.extra here legs q.to a → Sooner ls a
  sooner here [] a covers h away (e, m) = absurd (away e)
  sooner here (leg ∷ legs) a covers h away (s, f, rest) =
      let p = leg.place in
      let within = stands_inside T p s f.sailing in
      let late : leg.arrives ≤ a = leads_forward T q.extra (after T q.extra s leg.arrives) legs q.to a (λ s₂. omega arith) rest in
      let least = next_least s (here.due s) leg.leaves f.leaves f.ready in
      let again = sooner (after T q.extra s leg.arrives) legs a in
      go (look ls p) refl (covers p s (omega arith) within f.sailing f.quay) least late again
    where
      go : (l : Label) → look ls leg.place ≡ l → LeavesBy l (next s (here.due s)) → next s (here.due s) ≤ leg.leaves → leg.arrives ≤ a
          → (Covers T ls (after T q.extra s leg.arrives) 0 (length T.places)
          → ((s₂ : Sailing) → leg.arrives ≤ leg.arrives + wait T q.extra s s₂) → (s.to ≡ q.to → ⊥) → Leads T q.extra (after T q.extra s leg.arrives) legs q.to a → Sooner ls a)
          → Sooner ls a
      go Unseen e w least late again = absurd w
      go (Waiting ride) e w least late again =
          let m = inv.made leg.place ride (ap ride_of e) in
          let same = same_sailing T leg.place ride.sailing s m.stands f.sailing in
          let arr : ride.arrives ≡ ride.leaves + length_of s = m.arrives ∙ ap (λ x. ride.leaves + length_of x) same in
          let f₂ = f.arrives in
          record { place = leg.place; ride = ride; waits = e; arrives = omega arith }
      go (Settled ride) e w least late again =
          let m = inv.made leg.place ride (ap ride_of e) in
          let same = same_sailing T leg.place ride.sailing s m.stands f.sailing in
          let arr : ride.arrives ≡ ride.leaves + length_of s = m.arrives ∙ ap (λ x. ride.leaves + length_of x) same in
          let f₂ = f.arrives in
          again (covers_later T q.extra ls s ride.arrives leg.arrives _ (omega arith) (closed.covered leg.place ride s e f.sailing)) (λ s₂. omega arith) (closed.away leg.place ride s e f.sailing) rest

  -- each journey, where the ends differ
  pub journey_sooner : (legs : List Leg) (a : ℕ) → (q.from ≡ q.to → ⊥) → Makes T q legs a → Sooner ls a
  journey_sooner legs a apart j = sooner (start q.from q.minute) legs a closed.begun (λ s. omega arith) apart j
