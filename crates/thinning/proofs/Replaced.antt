-- A journey with each dominated leg replaced by one that is not. Assumes nothing.
use Rattle.std.proofs.Common.{◌≡◌, ℕ, ◌+◌, ◌≤◌, Bool, true, false, cond, ◌⊎◌, List, [], ◌∷◌, Some, sym, refl, ap, ◌∙◌, inl, inr, ⊎_elim, arith}
use Rattle.std.proofs.lemmas.Bool.{cases_Bool, cond-false}
use Rattle.timetable.specs.declared.sailing.Sailing.{Sailing}
use Rattle.timetable.specs.declared.query.Query.{Query}
use Rattle.timetable.specs.declared.query.Leg.{Leg}
use Rattle.timetable.specs.Classes.{most, class_minutes}
use Rattle.timetable.specs.Times.{length_of, next, Leaves, continues}
use Rattle.timetable.specs.Timetables.{Timetable, place_at, change_at}
use Rattle.timetable.specs.Hiding.{hide}
use Rattle.timetable.proofs.Laws.{next-late, next_leaves, class_short, continues_means}
use Rattle.journey.specs.Journeys.{Stand, start, after, wait, Leads, Journey}
use Rattle.thinning.specs.Margins.{margin_before, margin_after}
use Rattle.thinning.specs.Dominance.{Beats, dominated}
use Rattle.thinning.specs.Thinning.{Picks, By, Keeps, ThinningLaws}
use Rattle.thinning.proofs.Tested.{margin_laws, beats_parts, beats_from, outranks_parts, outranks_from, dominance}
use Rattle.thinning.proofs.Orders.{days_later}
use Rattle.thinning.proofs.Descent.{Better, descent, stays}

before_is : (t : Timetable) (s r : Sailing) (k : ℕ) → place_at t k ≡ Some r → continues s r ≡ true → margin_before t s ≡ change_at t s.from + most
before_is t s r k e h = (margin_laws t s).before_some k r e ((continues_means s r).0 h)

after_is : (t : Timetable) (s r : Sailing) (k : ℕ) → place_at t k ≡ Some s → continues s r ≡ true → margin_after t r ≡ change_at t r.to + most
after_is t s r k e h = (margin_laws t r).after_some k s e ((continues_means s r).0 h)

wait-most : (t : Timetable) (extra : ℕ) (r s : Sailing) → wait t extra r s ≤ change_at t r.to + extra
wait-most t extra r s = elim (continues s r) as (λ b. cond b 0 (change_at t r.to + extra) ≤ change_at t r.to + extra) [ true ↦ omega arith | false ↦ omega arith ]

wait_on : (t : Timetable) (extra : ℕ) (r s : Sailing) → continues s r ≡ false → wait t extra r s ≡ change_at t r.to + extra
wait_on t extra r s h = cond-false _ _ _ h

-- the new journey has come as far as the old one, no later: what could be boarded still can be, and so can what leaves later by the margin
pub record Near (t : Timetable) (here there : Stand) : Type 0 where
  pub quay : there.quay ≡ here.quay
  pub minute : there.minute ≤ here.minute
  pub same : (k : ℕ) (s : Sailing) → place_at t k ≡ Some s → s.from ≡ here.quay → there.due s ≤ here.due s
  pub other : (k : ℕ) (s S : Sailing) → place_at t k ≡ Some s → s.from ≡ here.quay → there.due S ≤ here.due s + margin_before t s

near_start : (t : Timetable) (quay minute : ℕ) → Near t (start quay minute) (start quay minute)
near_start t quay minute = record { quay = refl; minute = omega arith; same = λ k s e f. omega arith; other = λ k s S e f. omega arith }

-- after a leg with Q, kept or replaced by one with P
near_after : (t : Timetable) (extra : ℕ) → extra ≤ most → (k : ℕ) (Q P : Sailing) (m n : ℕ) → place_at t k ≡ Some Q → P.to ≡ Q.to → n ≤ m → (P ≡ Q) ⊎ (n + margin_after t Q ≤ m) →
    Near t (after t extra Q m) (after t extra P n)
near_after t extra hc k Q P m n e to le how = record {
  quay = to;
  minute = le;
  same = λ j s f at. ⊎_elim
      (λ (is : P ≡ Q). let w = ap (λ (y : Sailing). wait t extra y s) is in omega (arith, w, le))
      (λ (h : n + margin_after t Q ≤ m). let x = wait-most t extra P s in let g = ap (change_at t) to in ⊎_elim
      (λ (y : continues s Q ≡ true). let a = after_is t s Q j f y in omega (arith, h, a, g, x, hc))
      (λ (y : continues s Q ≡ false). let o = wait_on t extra Q s y in omega (arith, o, g, x, le))
      (cases_Bool (continues s Q)))
      how;
  other = λ j s S f at. let x = wait-most t extra P S in let g = ap (change_at t) to in let a = ap (change_at t) at in ⊎_elim
      (λ (y : continues s Q ≡ true). let b = before_is t s Q k e y in omega (arith, b, g, a, x, le, hc))
      (λ (y : continues s Q ≡ false). let o = wait_on t extra Q s y in omega (arith, o, g, x, le))
      (cases_Bool (continues s Q));
}

-- the sailing that beats s, from the minute at which s leaves
arrives : (t : Timetable) (p : ℕ) (P : Sailing) (q : ℕ) (s : Sailing) (u : ℕ) → Beats t p P q s → Leaves s u →
    next P (u + margin_before t s) + length_of P + margin_after t s ≤ u + length_of s
arrives t p P q s u b l =
    let h = days_later P (u + margin_before t s) (s.dep + margin_before t s) l.on (omega (arith, l.minute)) in
    omega (arith, h, l.minute, b.early)

module _ (t : Timetable) (f : ℕ → Sailing → Bool) (sub : Picks f t) (extra : ℕ) (hc : extra ≤ most) (to a : ℕ) where
  pub record Found (here : Stand) : Type 0 where
    pub legs : List Leg
    pub arrival : ℕ
    pub sooner : arrival ≤ a
    pub leads : Leads (hide f t) extra here legs to arrival

  add : (here : Stand) (p u : ℕ) (s : Sailing) → place_at (hide f t) p ≡ Some s → s.from ≡ here.quay → Leaves s u → here.due s ≤ u → Found (after t extra s (u + length_of s)) → Found here
  add here p u s e quay l w r =
      let leg : Leg = record { place = p; leaves = u; arrives = u + length_of s } in
      record {
        legs = leg ∷ r.legs;
        arrival = r.arrival;
        sooner = r.sooner;
        leads = (s, record { sailing = e; quay = quay; leaves = l; ready = w; arrives = refl }, r.leads);
      }

  pub replaced : (legs : List Leg) (here there : Stand) → Near t here there → Leads t extra here legs to a → Found there
  replaced [] here there n r = record { legs = []; arrival = there.minute; sooner = omega (arith, n.minute, r.1); leads = (n.quay ∙ r.0, refl) }
  replaced (l ∷ ls) here there n r =
      let s = r.0 in
      let boards = r.1 in
      ⊎_elim
      (λ (free : dominated t l.place s ≡ false).
      add there l.place l.leaves s (stays t f sub l.place s boards.sailing free) (boards.quay ∙ sym n.quay) boards.leaves
      (omega (arith, n.same l.place s boards.sailing boards.quay, boards.ready))
      (replaced ls (after t extra s l.arrives) (after t extra s (l.leaves + length_of s))
      (near_after t extra hc l.place s s l.arrives (l.leaves + length_of s) boards.sailing refl (omega (arith, boards.arrives)) (inl refl)) r.2))
      (λ (b : Better t l.place s).
      let P = b.sailing in
      let u = next P (l.leaves + margin_before t s) in
      let y = arrives t b.place P l.place s l.leaves b.wins boards.leaves in
      add there b.place u P (stays t f sub b.place P b.stands b.free) (b.wins.from ∙ boards.quay ∙ sym n.quay) (next_leaves P _)
      (omega (arith, n.other l.place s P boards.sailing boards.quay, boards.ready, next-late P (l.leaves + margin_before t s)))
      (replaced ls (after t extra s l.arrives) (after t extra P (u + length_of P))
      (near_after t extra hc l.place s P l.arrives (u + length_of P) boards.sailing b.wins.to (omega (arith, y, boards.arrives)) (inr (omega (arith, y, boards.arrives)))) r.2))
      (descent t l.place s boards.sailing)

by : (t : Timetable) (f : ℕ → Sailing → Bool) → Picks f t → (q : Query) (legs : List Leg) (a : ℕ) → Journey t q legs a → By (hide f t) q a
by t f sub q legs a j =
    let here = start q.from q.minute in
    let r = replaced t f sub (class_minutes q.class) (class_short q.class) q.to a legs here here (near_start t q.from q.minute) j in
    record { legs = r.legs; arrival = r.arrival; sooner = r.sooner; journey = r.leads }

pub keeps : (t : Timetable) (f : ℕ → Sailing → Bool) → Picks f t → Keeps t (hide f t)
keeps t f sub = record {
  journeys = by t f sub;
  earliest = λ q a least legs b j. let r = by t f sub q legs b j in omega (arith, r.sooner, least r.legs r.arrival r.journey);
  none = λ q n legs a j. let r = by t f sub q legs a j in n r.legs r.arrival r.journey;
}

pub thinning_laws : ThinningLaws
thinning_laws = record {
  margins = margin_laws;
  beaten = λ t p P q Q. (beats_parts t p P q Q, beats_from t p P q Q);
  outranked = λ t p P q Q. (outranks_parts t p P q Q, outranks_from t p P q Q);
  dominance = dominance;
  keeps = keeps;
}
