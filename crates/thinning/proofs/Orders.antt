-- Outranking is an order: one above another above a third is above the third, and none is above itself. Assumes nothing.
use Rattle.std.proofs.Common.{◌≡◌, ℕ, zero, suc, ◌+◌, ◌*◌, ◌<◌, ◌≤◌, Bool, true, false, ◌⊎◌, sym, ◌∙◌, subst, subst₂, inl, inr, ⊎_elim, arith}
use Rattle.std.proofs.lemmas.Bool.{cases_lt, cases_Bool, true≢false}
use Rattle.timetable.specs.declared.sailing.Sailing.{Sailing}
use Rattle.timetable.specs.Times.{day, next}
use Rattle.timetable.specs.Timetables.{Timetable}
use Rattle.timetable.proofs.Laws.{next-late, next_leaves, next_least}
use Rattle.thinning.specs.Margins.{margin_before}
use Rattle.thinning.specs.Dominance.{Beats, Outranks}

-- what leaves so early leaves as early some days later
pub days_later : (s : Sailing) (u v days : ℕ) → u ≤ day * days + v → next s u ≤ day * days + next s v
days_later s u v days h =
    let l = next_leaves s v in
    next_least s u (day * days + next s v) (record { on = days + l.on; minute = omega (arith, l.minute) }) (omega (arith, next-late s v))

pub beats_trans : (t : Timetable) (p : ℕ) (P : Sailing) (q : ℕ) (Q : Sailing) (r : ℕ) (R : Sailing) →
    Beats t p P q Q → Beats t q Q r R → (p ≡ r → ⊥) → Beats t p P r R
beats_trans t p P q Q r R a b ne =
    let l = next_leaves Q (R.dep + margin_before t R) in
    let y = next-late Q (R.dep + margin_before t R) in
    let s = days_later P (R.dep + margin_before t R) (Q.dep + margin_before t Q) l.on (omega (arith, l.minute)) in
    record {
      apart = ne;
      from = a.from ∙ b.from;
      to = a.to ∙ b.to;
      early = omega (arith, l.minute, a.early, b.early);
    }

pub outranks_trans : (t : Timetable) (p : ℕ) (P : Sailing) (q : ℕ) (Q : Sailing) (r : ℕ) (R : Sailing) → (p ≡ r → P ≡ R) →
    Outranks t p P q Q → Outranks t q Q r R → Outranks t p P r R
outranks_trans t p P q Q r R same a b =
    let ne : p ≡ r → ⊥ = λ e.
    let back : Beats t q Q p P = subst₂ (λ (n : ℕ) (S : Sailing). Beats t q Q n S) (sym e) (sym (same e)) b.wins in
    let there : Beats t r R q Q = subst₂ (λ (n : ℕ) (S : Sailing). Beats t n S q Q) e (same e) a.wins in
    let x = a.tie back in let y = b.tie there in omega arith in
    record {
      wins = beats_trans t p P q Q r R a.wins b.wins ne;
      tie = λ c.
          let y = b.tie (beats_trans t r R p P q Q c a.wins (λ e. b.wins.apart (sym e))) in
          let x = a.tie (beats_trans t q Q r R p P b.wins c (λ e. a.wins.apart (sym e))) in
          omega arith;
    }

one_more : (n : ℕ) (f : ℕ → Bool) → ((y : ℕ) → y < n → f y ≡ false) → f n ≡ false → (y : ℕ) → y < suc n → f y ≡ false
one_more n f below here y h = ⊎_elim (λ k. below y k) (λ k. subst (λ m. f m ≡ false) (omega arith) here) (cases_lt y n)

-- among the numbers below n, one above q that nothing is above, where a relation is transitive and no number is above itself
module _ (D : ℕ → ℕ → Bool) (trans : (p q r : ℕ) → D p q ≡ true → D q r ≡ true → D p r ≡ true) (irrefl : (p : ℕ) → D p p ≡ false) where
  abbrev pub Top : ℕ → ℕ → Type 0
  Top n q = ((p : ℕ) → p < n → D p q ≡ false) ⊎ ((p : ℕ) × (p < n) × (D p q ≡ true) × ((y : ℕ) → y < n → D y p ≡ false))

  off : (p q r : ℕ) → D q r ≡ true → D p r ≡ false → D p q ≡ false
  off p q r h k = ⊎_elim (λ e. absurd (true≢false (sym (trans p q r e h) ∙ k))) (λ e. e) (cases_Bool (D p q))

  pub top : (n q : ℕ) → Top n q
  top zero q = inl (λ p h. absurd (omega arith))
  top (suc n) q = ⊎_elim
      (λ (none : (p : ℕ) → p < n → D p q ≡ false). ⊎_elim
      (λ (e : D n q ≡ true). inr (n, omega arith, e, one_more n (λ y. D y n) (λ y h. off y n q e (none y h)) (irrefl n)))
      (λ (e : D n q ≡ false). inl (one_more n (λ y. D y q) none e))
      (cases_Bool (D n q)))
      (λ (some : (p : ℕ) × (p < n) × (D p q ≡ true) × ((y : ℕ) → y < n → D y p ≡ false)). ⊎_elim
      (λ (e : D n some.0 ≡ true). inr (n, omega arith, trans n some.0 q e some.2, one_more n (λ y. D y n) (λ y h. off y n some.0 e (some.3 y h)) (irrefl n)))
      (λ (e : D n some.0 ≡ false). inr (some.0, omega (arith, some.1), some.2, one_more n (λ y. D y some.0) some.3 e))
      (cases_Bool (D n some.0)))
      (top n q)
