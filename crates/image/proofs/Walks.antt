-- Checks in a row: the step of a walk, its end, and its first fault. Assumes nothing.
use Rattle.std.proofs.Common.{◌≡◌, ℕ, zero, suc, ◌+◌, ◌<◌, ◌⊎◌, leb, List, drop, Ok, Err, refl, ap, ◌∙◌, subst, inl, inr, ⊎_elim, add-one, arith}
use Rattle.std.specs.Result.{result_and}
use Rattle.std.proofs.lemmas.Bool.{cases_eq}
use Rattle.std.proofs.lemmas.List.{get_or-take, get_or-drop}
use Rattle.image.specs.declared.fault.Fault.{Fault}
use Rattle.timetable.specs.declared.refusal.Refusal.TheVariants.{OutOfLimits}
use Rattle.image.specs.declared.fault.Part.TheVariants.{Quays}
use Rattle.image.specs.Checks.{Check, unless, up_to, fault, frame, letter_is, name_byte, quay}
use Rattle.image.specs.Content.{letter, quay_of}
use Rattle.image.specs.Records.{number_at, quay_start, quay_at}

module _ (f : ℕ → Check) where
  pub up_to_more : (i : ℕ) → up_to f i ≡ Ok tt → f i ≡ Ok tt → up_to f (i + 1) ≡ Ok tt
  up_to_more i h e = rw add-one (rw (h, e))

  pub up_to-fault : (i n : ℕ) (e : Fault) → i < n → up_to f i ≡ Ok tt → f i ≡ Err e → up_to f n ≡ Err e
  up_to-fault i zero e l h w = absurd (omega arith)
  up_to-fault i (suc n) e l h w =
      ⊎_elim
      (λ same. subst (λ k. result_and (up_to f k) (f k) ≡ Err e) same (rw (h, w)))
      (λ other. rw (up_to-fault i n e (omega arith) h w))
      (cases_eq i n)

pub both_ok : (r s : Check) → result_and r s ≡ Ok tt → (r ≡ Ok tt) × (s ≡ Ok tt)
both_ok (Ok x) s h = (refl, h)
both_ok (Err e) s h = let z : ◌≡◌ {A = ℕ} 0 1 = cc in absurd (omega arith)

pub up_to_all : (f : ℕ → Check) (n : ℕ) → ((k : ℕ) → k < n → f k ≡ Ok tt) → up_to f n ≡ Ok tt
up_to_all f zero h = refl
up_to_all f (suc n) h = rw (up_to_all f n (λ k l. h k (omega arith)), h n (omega arith))

pub up_to_each : (f : ℕ → Check) (n : ℕ) → up_to f n ≡ Ok tt → (k : ℕ) → k < n → f k ≡ Ok tt
up_to_each f zero h k l = absurd (omega arith)
up_to_each f (suc n) h k l =
    let p = both_ok (up_to f n) (f n) h in
    ⊎_elim (λ same. rw same p.1) (λ other. up_to_each f n p.0 k (omega arith)) (cases_eq k n)

pub check_cases : (r : Check) → (r ≡ Ok tt) ⊎ ((e : Fault) × (r ≡ Err e))
check_cases (Ok x) = inl refl
check_cases (Err e) = inr (e, refl)

pub up_to_same : (f g : ℕ → Check) (n : ℕ) → ((k : ℕ) → k < n → f k ≡ g k) → up_to f n ≡ up_to g n
up_to_same f g zero h = refl
up_to_same f g (suc n) h = rw (up_to_same f g n (λ k l. h k (omega arith)), h n (omega arith))

pub and_assoc : (r s t : Check) → result_and r (result_and s t) ≡ result_and (result_and r s) t
and_assoc (Ok x) s t = refl
and_assoc (Err e) s t = refl

-- a check that answers with a number where it passes
pub numbered : (r : Check) (n m : ℕ) → result_and r (Ok n) ≡ Ok m → (r ≡ Ok tt) × (m ≡ n)
numbered (Ok x) n m h = (refl, cc)
numbered (Err e) n m h = let z : ◌≡◌ {A = ℕ} 0 1 = cc in absurd (omega arith)

pub unnumbered : (r : Check) (n : ℕ) (e : Fault) → result_and r (Ok n) ≡ Err e → r ≡ Err e
unnumbered (Ok x) n e h = let z : ◌≡◌ {A = ℕ} 0 1 = cc in absurd (omega arith)
unnumbered (Err f) n e h = cc

-- the check of the quay that is read there
pub quay_read_is : (bs : List ℕ) (row : ℕ) → result_and (frame bs (quay_start row) 14 3 Quays row) (quay_of (quay_at bs row) row) ≡ quay bs row
quay_read_is bs row =
    let change = unless (leb (number_at bs (quay_start row + 4)) 1439) (fault OutOfLimits Quays row (quay_start row + 4)) in
    let name = up_to_same (letter (quay_at bs row) row) (name_byte bs row) 10 (λ i l. ap (λ b. letter_is b row i) (get_or-take 10 (drop (quay_start row + 6) bs) i 0 l ∙ get_or-drop (quay_start row + 6) bs i 0)) in
    ap (λ z. result_and (frame bs (quay_start row) 14 3 Quays row) (result_and change z)) name
    ∙ and_assoc (frame bs (quay_start row) 14 3 Quays row) change (up_to (name_byte bs row) 10)
