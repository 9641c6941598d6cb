-- What a timetable tells in each case. Assumes nothing.
use Rattle.std.proofs.Common.{◌≡◌, ℕ, ◌<◌, ◌≤◌, length, Some, Ok, Err, Option, ⊎_elim, arith}
use Rattle.std.proofs.lemmas.Bool.{cases_lt, lt-ltb, le-ltb, le-leb, lt-leb}
use Rattle.timetable.specs.declared.refusal.Refusal.{Refusal}
use Rattle.timetable.specs.declared.refusal.Refusal.TheVariants.{NoQuay, LateMinute, ShortBuffer}
use Rattle.timetable.specs.Times.{day}
use Rattle.timetable.specs.Timetables.{Timetable}
use Rattle.console.specs.Told.{soonest, told_in}

module _ (t : Timetable) (q u room : ℕ) where
  pub tells_no_quay : length t.changes ≤ q → told_in t q u room ≡ Err NoQuay
  tells_no_quay h = rw (le-ltb q (length t.changes) h)

  pub tells_late : q < length t.changes → day ≤ u → told_in t q u room ≡ Err LateMinute
  tells_late h l = let k : 1439 < u = omega arith in rw (lt-ltb q (length t.changes) h, lt-leb u 1439 k)

  pub tells_short : q < length t.changes → u < day → room < 4 → told_in t q u room ≡ Err ShortBuffer
  tells_short h l r = let k : u ≤ 1439 = omega arith in rw (lt-ltb q (length t.changes) h, le-leb u 1439 k, lt-leb 4 room r)

  pub tells_all : q < length t.changes → u < day → 4 ≤ room → told_in t q u room ≡ Ok (soonest t.places q u (length t.places))
  tells_all h l r = let k : u ≤ 1439 = omega arith in rw (lt-ltb q (length t.changes) h, le-leb u 1439 k, le-leb 4 room r)

  refused : (e : Refusal) (x : Option ℕ) → told_in t q u room ≡ Err e → told_in t q u room ≡ Ok x → ⊥
  refused e x a b = let z : ◌≡◌ {A = ℕ} 0 1 = cc in omega arith

  -- a departure is told only where there is room for it
  pub told_room : (m : ℕ) → told_in t q u room ≡ Ok (Some m) → 4 ≤ room
  told_room m e =
      ⊎_elim
      (λ h. ⊎_elim
      (λ l. ⊎_elim (λ r. absurd (refused ShortBuffer (Some m) (tells_short h l r) e)) (λ r. r) (cases_lt room 4))
      (λ l. absurd (refused LateMinute (Some m) (tells_late h l) e))
      (cases_lt u day))
      (λ h. absurd (refused NoQuay (Some m) (tells_no_quay h) e))
      (cases_lt q (length t.changes))
