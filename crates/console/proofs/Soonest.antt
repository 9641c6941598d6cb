-- The soonest over all places is the earliest departure. Assumes nothing.
use Rattle.std.proofs.Common.{◌≡◌, ℕ, zero, suc, ◌+◌, ◌<◌, ◌≤◌, List, length, get_or, Some, None, Option, sym, refl, ap, ◌∙◌, subst, ⊎_elim, arith}
use Rattle.std.proofs.lemmas.List.{get_or_past}
use Rattle.std.proofs.lemmas.Bool.{cases_eq, cases_lt, eq-eqb}
use Rattle.timetable.specs.declared.sailing.Sailing.{Sailing}
use Rattle.timetable.specs.Times.{day, next}
use Rattle.timetable.specs.Timetables.{Timetable, Lawful}
use Rattle.timetable.proofs.Laws.{next_soon}
use Rattle.console.specs.Earliest.{From, NoneFrom, Earliest}
use Rattle.console.specs.Told.{departure, sooner, soonest}
use Rattle.console.proofs.Spans.{other_place}

-- a sailing from q at one of the first n places
record Early (ps : List (Option Sailing)) (q n : ℕ) (s : Sailing) : Type 0 where
  place : ℕ
  low : place < n
  there : get_or ps place None ≡ Some s
  leaves : s.from ≡ q

-- what the soonest over the first n places is
data Sought (ps : List (Option Sailing)) (q u n : ℕ) (o : Option ℕ) : Type 0 where
  none : ((s : Sailing) → Early ps q n s → ⊥) → o ≡ None → Sought ps q u n o
  some : (s : Sailing) (m : ℕ) → Early ps q n s → m ≡ next s u → ((x : Sailing) → Early ps q n x → m ≤ next x u) → o ≡ Some m → Sought ps q u n o

-- a sailing of the first n + 1 places is the last of them or one before
early_cases : (ps : List (Option Sailing)) (q n : ℕ) (s : Sailing) → Early ps q (suc n) s → (P : Type 0) → ((get_or ps n None ≡ Some s) → s.from ≡ q → P) → (Early ps q n s → P) → P
early_cases ps q n s e P last before =
    ⊎_elim
    (λ same. last (subst (λ p. get_or ps p None ≡ Some s) same e.there) e.leaves)
    (λ other. before (record { place = e.place; low = omega (arith, e.low, other); there = e.there; leaves = e.leaves }))
    (cases_eq e.place n)

more : (ps : List (Option Sailing)) (q n : ℕ) (s : Sailing) → Early ps q n s → Early ps q (suc n) s
more ps q n s e = record { place = e.place; low = omega (arith, e.low); there = e.there; leaves = e.leaves }

module _ (ps : List (Option Sailing)) (q u n : ℕ) where
  -- the last place holds no sailing from q
  skip : (best : Option ℕ) → ((s : Sailing) → get_or ps n None ≡ Some s → s.from ≡ q → ⊥) → Sought ps q u n best → Sought ps q u (suc n) best
  skip best h (none lack e) = none (λ s x. early_cases ps q n s x ⊥ (h s) (lack s)) e
  skip best h (some s m x a l e) = some s m (more ps q n s x) a (λ y z. early_cases ps q n y z (m ≤ next y u) (λ g f. absurd (h y g f)) (l y)) e

  -- it holds s, which leaves q
  meet : (best : Option ℕ) (s : Sailing) → get_or ps n None ≡ Some s → s.from ≡ q → Sought ps q u n best → Sought ps q u (suc n) (sooner best (Some (next s u)))
  meet best s g f (none lack e) =
      some s (next s u) (record { place = n; low = omega arith; there = g; leaves = f }) refl
      (λ y z. early_cases ps q n y z (next s u ≤ next y u) (λ k _. let same : s ≡ y = cc in subst (λ w. next s u ≤ next w u) same (omega arith)) (λ b. absurd (lack y b)))
      (ap (λ o. sooner o (Some (next s u))) e)
  meet best s g f (some r m x a l e) =
      let here : Early ps q (suc n) s = record { place = n; low = omega arith; there = g; leaves = f } in
      ⊎_elim
      (λ lower. some s (next s u) here refl
      (λ y z. early_cases ps q n y z (next s u ≤ next y u) (λ k _. let same : s ≡ y = cc in subst (λ w. next s u ≤ next w u) same (omega arith)) (λ b. omega (arith, l y b)))
      (ap (λ o. sooner o (Some (next s u))) e ∙ ap Some (omega arith)))
      (λ upper. some r m (more ps q n r x) a
      (λ y z. early_cases ps q n y z (m ≤ next y u) (λ k _. let same : s ≡ y = cc in subst (λ w. m ≤ next w u) same upper) (l y))
      (ap (λ o. sooner o (Some (next s u))) e ∙ ap Some (omega arith)))
      (cases_lt (next s u) m)

  step : (best : Option ℕ) (o : Option Sailing) → get_or ps n None ≡ o → Sought ps q u n best → Sought ps q u (suc n) (sooner best (departure o q u))
  step best None g x =
      let lack : (s : Sailing) → get_or ps n None ≡ Some s → s.from ≡ q → ⊥ = λ s k _. let z : ◌≡◌ {A = ℕ} 0 1 = cc in omega arith in
      subst (Sought ps q u (suc n)) (sym (other_place best None q u (λ s k. lack s (g ∙ k)))) (skip best lack x)
  step best (Some s) g x =
      ⊎_elim
      (λ f. rw (eq-eqb s.from q f) (meet best s g f x))
      (λ f.
      let lack : (y : Sailing) → get_or ps n None ≡ Some y → y.from ≡ q → ⊥ = λ y k h. let same : s ≡ y = cc in f (ap (λ w. w.from) same ∙ h) in
      subst (Sought ps q u (suc n)) (sym (other_place best (Some s) q u (λ y k. lack y (g ∙ k)))) (skip best lack x))
      (cases_eq s.from q)

sought : (ps : List (Option Sailing)) (q u n : ℕ) → Sought ps q u n (soonest ps q u n)
sought ps q u zero = none (λ s e. omega (arith, e.low)) refl
sought ps q u (suc n) = step ps q u n (soonest ps q u n) (get_or ps n None) refl (sought ps q u n)

module _ (t : Timetable) (q u : ℕ) where
  seen : (s : Sailing) → From t q s → Early t.places q (length t.places) s
  seen s f = record {
    place = f.place;
    low = ⊎_elim (λ l. l) (λ l. let e : None ≡ Some s = sym (get_or_past t.places f.place None l) ∙ f.there in let z : ◌≡◌ {A = ℕ} 0 1 = cc in absurd (omega arith)) (cases_lt f.place (length t.places));
    there = f.there;
    leaves = f.leaves;
  }

  met : (s : Sailing) → Early t.places q (length t.places) s → From t q s
  met s e = record { place = e.place; there = e.there; leaves = e.leaves }

  pub none_told : soonest t.places q u (length t.places) ≡ None → NoneFrom t q
  none_told h = go (sought t.places q u (length t.places))
    where
      go : Sought t.places q u (length t.places) (soonest t.places q u (length t.places)) → NoneFrom t q
      go (none lack e) = λ s f. lack s (seen s f)
      go (some s m x a l e) = let z : ◌≡◌ {A = ℕ} 0 1 = cc in absurd (omega arith)

  pub some_told : (m : ℕ) → soonest t.places q u (length t.places) ≡ Some m → Earliest t q u m
  some_told m h = go (sought t.places q u (length t.places))
    where
      go : Sought t.places q u (length t.places) (soonest t.places q u (length t.places)) → Earliest t q u m
      go (none lack e) = let z : ◌≡◌ {A = ℕ} 0 1 = cc in absurd (omega arith)
      go (some s k x a l e) =
          let same : k ≡ m = cc in
          subst (Earliest t q u) same (record { sailing = s; from = met s x; attained = a; least = λ y f. l y (seen y f) })

  pub told_none : NoneFrom t q → soonest t.places q u (length t.places) ≡ None
  told_none lack = go (sought t.places q u (length t.places))
    where
      go : Sought t.places q u (length t.places) (soonest t.places q u (length t.places)) → soonest t.places q u (length t.places) ≡ None
      go (none n e) = e
      go (some s m x a l e) = absurd (lack s (met s x))

  pub told_some : (m : ℕ) → Earliest t q u m → soonest t.places q u (length t.places) ≡ Some m
  told_some m h = go (sought t.places q u (length t.places))
    where
      go : Sought t.places q u (length t.places) (soonest t.places q u (length t.places)) → soonest t.places q u (length t.places) ≡ Some m
      go (none lack e) = absurd (lack h.sailing (seen h.sailing h.from))
      go (some s k x a l e) = e ∙ ap Some (omega (arith, l h.sailing (seen h.sailing h.from), h.least s (met s x), a, h.attained))

  -- a sailing within the day leaves within a day of the minute
  pub earliest_soon : Lawful t → (m : ℕ) → Earliest t q u m → m < u + day
  earliest_soon law m h =
      let s = h.sailing in
      omega (arith, next_soon s (law.within h.from.place s h.from.there).dep_day u, h.attained)
