-- The row of a quay, where there is one. Assumes nothing.
use Rattle.std.proofs.Common.{◌≡◌, ℕ, ◌<◌, ◌≤◌, cond, ltb, Ok, Err, ⊎_elim, arith}
use Rattle.std.proofs.lemmas.Bool.{lt-ltb, le-ltb, cases_lt}
use Rattle.timetable.specs.declared.refusal.Refusal.{Refusal}
use Rattle.timetable.specs.declared.refusal.Refusal.TheVariants.{NoQuay}

module _ (q n : ℕ) where
  pub row_in : (r : ℕ) → Ok r ≡ cond (ltb q n) (Ok q) (Err NoQuay) → (q < n) × (r ≡ q)
  row_in r h =
      ⊎_elim
      (λ l. (l, let e = rw (lt-ltb q n l) at h in cc))
      (λ l. let e = rw (le-ltb q n l) at h in let z : ◌≡◌ {A = ℕ} 0 1 = cc in absurd (omega arith))
      (cases_lt q n)

  pub row_out : (e : Refusal) → Err e ≡ cond (ltb q n) (Ok q) (Err NoQuay) → (n ≤ q) × (e ≡ NoQuay)
  row_out e h =
      ⊎_elim
      (λ l. let e = rw (lt-ltb q n l) at h in let z : ◌≡◌ {A = ℕ} 0 1 = cc in absurd (omega arith))
      (λ l. (l, let e = rw (le-ltb q n l) at h in cc))
      (cases_lt q n)
