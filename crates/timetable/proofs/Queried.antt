-- A query is refused for the lowest of its faults. Assumes nothing.
use Rattle.std.proofs.Common.{ℕ, ◌<◌, ◌≤◌, ltb, ◌⊎◌, length, Some, None, Option, sym, refl, subst, inl, inr, arith, lit≤}
use Rattle.std.proofs.lemmas.Bool.{cond_both, ltb-true, ltb-false}
use Rattle.timetable.specs.declared.query.Query.{Query}
use Rattle.timetable.specs.declared.refusal.Refusal.{Refusal}
use Rattle.timetable.specs.declared.refusal.Refusal.TheVariants.{NoQuay, LateMinute, NoClass}
use Rattle.timetable.specs.Refusals.{number_of}
use Rattle.timetable.specs.Classes.{figures}
use Rattle.timetable.specs.Times.{day}
use Rattle.timetable.specs.Queries.{Is, Lowest, Unfit, query_cause, unless, Judges}

-- what is due at all has at least the number of its cause
pub at_least : (n : ℕ) (f e : Refusal) (P : Type 0) → n ≤ number_of f → Is f P e → n ≤ number_of e
at_least n f e P h i = subst (λ x. n ≤ number_of x) (sym i.1) h

module _ (q : Query) (quays : ℕ) where
  no_quay : (quays ≤ q.from) ⊎ (quays ≤ q.to) → Lowest (Unfit q quays) NoQuay
  no_quay h = record { wrong = inl (h, refl); lowest = low }
    where
      low : (f : Refusal) → Unfit q quays f → 11 ≤ number_of f
      low f (inl i) = at_least 11 NoQuay f _ (lit≤ tt) i
      low f (inr (inl i)) = at_least 11 LateMinute f _ (lit≤ tt) i
      low f (inr (inr i)) = at_least 11 NoClass f _ (lit≤ tt) i

  -- what the first cause says
  abbrev pub Causes : Option Refusal → Type 0
  Causes None = (e : Refusal) → Unfit q quays e → ⊥
  Causes (Some e) = Lowest (Unfit q quays) e

  module _ (from : q.from < quays) (to : q.to < quays) where
    not_out : (quays ≤ q.from) ⊎ (quays ≤ q.to) → ⊥
    not_out (inl h) = omega arith
    not_out (inr h) = omega arith

    late : day ≤ q.minute → Lowest (Unfit q quays) LateMinute
    late h = record { wrong = inr (inl (h, refl)); lowest = low }
      where
        low : (f : Refusal) → Unfit q quays f → 12 ≤ number_of f
        low f (inl (out, _)) = absurd (not_out out)
        low f (inr (inl i)) = at_least 12 LateMinute f _ (lit≤ tt) i
        low f (inr (inr i)) = at_least 12 NoClass f _ (lit≤ tt) i

    no_class : q.minute < day → length figures ≤ q.class → Lowest (Unfit q quays) NoClass
    no_class m h = record { wrong = inr (inr (h, refl)); lowest = low }
      where
        low : (f : Refusal) → Unfit q quays f → 14 ≤ number_of f
        low f (inl (out, _)) = absurd (not_out out)
        low f (inr (inl (l, _))) = absurd (omega (arith, l, m))
        low f (inr (inr i)) = at_least 14 NoClass f _ (lit≤ tt) i

    clear : q.minute < day → q.class < length figures → Causes None
    clear m c e (inl (out, _)) = not_out out
    clear m c e (inr (inl (l, _))) = omega (arith, l, m)
    clear m c e (inr (inr (l, _))) = omega (arith, l, c)

  pub cause_means : Causes (query_cause q quays)
  cause_means =
      cond_both (ltb q.from quays) _ _ Causes
      (λ a. cond_both (ltb q.to quays) _ _ Causes
      (λ b. cond_both (ltb q.minute day) _ _ Causes
      (λ m. cond_both (ltb q.class (length figures)) _ _ Causes
      (λ c. clear (ltb-true _ _ a) (ltb-true _ _ b) (ltb-true _ _ m) (ltb-true _ _ c))
      (λ c. no_class (ltb-true _ _ a) (ltb-true _ _ b) (ltb-true _ _ m) (ltb-false _ _ c)))
      (λ m. late (ltb-true _ _ a) (ltb-true _ _ b) (ltb-false _ _ m)))
      (λ b. no_quay (inr (ltb-false _ _ b))))
      (λ a. no_quay (inl (ltb-false _ _ a)))

  pub judges : Judges q quays (unless (query_cause q quays) tt)
  judges = go (query_cause q quays) cause_means
    where
      go : (c : Option Refusal) → Causes c → Judges q quays (unless c tt)
      go None h = h
      go (Some e) h = h
