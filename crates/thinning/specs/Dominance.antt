-- Which sailings are dominated. Assumes nothing.
use Rattle.std.specs.Prelude.{◌≡◌, ℕ, zero, suc, ◌+◌, ◌<◌, ◌≤◌, Bool, false, not, ◌&&◌, ◌||◌, length, Some, Option, ◌==◌, nat_le, nat_lt}
use Rattle.timetable.specs.declared.sailing.Sailing.{Sailing}
use Rattle.timetable.specs.Times.{length_of, next}
use Rattle.timetable.specs.Timetables.{Timetable, place_at}
use Rattle.tables.specs.Lists.{many}
use Rattle.thinning.specs.Margins.{passes, margin_before, margin_after}

-- P at place p beats Q at place q: it leaves no earlier than Q by the margin before, and arrives no later by the margin after
pub record Beats (t : Timetable) (p : ℕ) (P : Sailing) (q : ℕ) (Q : Sailing) : Type 0 where
  pub apart : p ≡ q → ⊥
  pub from : P.from ≡ Q.from
  pub to : P.to ≡ Q.to
  pub early : next P (Q.dep + margin_before t Q) + length_of P + margin_after t Q ≤ Q.dep + length_of Q

abbrev pub beats : Timetable → ℕ → Sailing → ℕ → Sailing → Bool
beats t p P q Q =
    not (p == q) && (P.from == Q.from && (P.to == Q.to
    && nat_le (next P (Q.dep + margin_before t Q) + length_of P + margin_after t Q) (Q.dep + length_of Q)))

-- P beats Q, and has the lower place if Q beats P too
pub record Outranks (t : Timetable) (p : ℕ) (P : Sailing) (q : ℕ) (Q : Sailing) : Type 0 where
  pub wins : Beats t p P q Q
  pub tie : Beats t q Q p P → p < q

abbrev pub outranks : Timetable → ℕ → Sailing → ℕ → Sailing → Bool
outranks t p P q Q = beats t p P q Q && not (nat_lt q p && beats t q Q p P)

-- some sailing in force outranks Q
pub record Dominated (t : Timetable) (q : ℕ) (Q : Sailing) : Type 0 where
  pub place : ℕ
  pub sailing : Sailing
  pub stands : place_at t place ≡ Some sailing
  pub over : Outranks t place sailing q Q

-- what stands at a place outranks Q
abbrev pub over_from : Timetable → ℕ → Option Sailing → ℕ → Sailing → Bool
over_from t p x q Q = passes (λ P. outranks t p P q Q) x

-- whether some number below n passes the test
abbrev pub some_below : (ℕ → Bool) → ℕ → Bool
some_below f zero = false
some_below f (suc n) = f n || some_below f n

abbrev pub dominated : Timetable → ℕ → Sailing → Bool
dominated t q Q = some_below (λ p. over_from t p (place_at t p) q Q) (length t.places)

-- the place is to be marked: it has a sailing that is dominated
abbrev pub mark_of : Timetable → ℕ → Bool
mark_of t p = passes (dominated t p) (place_at t p)

abbrev pub dominated_in : Timetable → ℕ
dominated_in t = many (mark_of t) (length t.places)
