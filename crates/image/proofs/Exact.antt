-- The check passes exactly the images that are allowed, and else tells the first fault. Assumes nothing.
use Rattle.std.proofs.Common.{◌≡◌, ℕ, Bool, true, false, cond, List, is_ok, Ok, Err, Decides, MatchBool, Result, refl, ap, ⊎_elim, arith}
use Rattle.std.specs.Result.{result_and}
use Rattle.std.proofs.lemmas.Bool.{cases_Bool}
use Rattle.std.proofs.lemmas.Bool.Decides.{nat_tests}
use Rattle.image.specs.declared.fault.Fault.{Fault}
use Rattle.image.specs.declared.fault.Kind.{Kind}
use Rattle.image.specs.declared.fault.Kind.TheVariants.{Printed, ClockFace}
use Rattle.image.specs.Checks.{Check, printed_check, clock_check, is_clock, image_check}
use Rattle.image.specs.Images.{PrintedOf, ClockOf, Tells}
use Rattle.image.specs.Faults.{PrintedWrong, ClockWrong, Wrong, Told}
use Rattle.image.proofs.Good.{printed_good, printed-right, clock_good, clock_right}
use Rattle.image.proofs.Contained.{Small, printed_content, clock_content}
use Rattle.image.proofs.Laid.{printed-held, clock_held}
use Rattle.image.proofs.Finds.{printed_first, clock_first}

pub ok_is : (r : Check) → is_ok r ≡ true → r ≡ Ok tt
ok_is (Ok x) h = refl
ok_is (Err e) h = let z : ◌≡◌ {A = ℕ} 0 1 = cc in absurd (omega arith)

-- an answer that goes on with a kind is that of a check that passed
passed : (r : Check) (k l : Kind) → result_and r (Ok k) ≡ Ok l → is_ok r ≡ true
passed (Ok x) k l h = refl
passed (Err e) k l h = let z : ◌≡◌ {A = ℕ} 0 1 = cc in absurd (omega arith)

kinds_apart : (r : Check) → result_and r (Ok ClockFace) ≡ Ok Printed → ⊥
kinds_apart (Ok x) h = let z : ◌≡◌ {A = ℕ} 0 1 = cc in omega arith
kinds_apart (Err e) h = let z : ◌≡◌ {A = ℕ} 0 1 = cc in omega arith

kinds_apart' : (r : Check) → result_and r (Ok Printed) ≡ Ok ClockFace → ⊥
kinds_apart' (Ok x) h = let z : ◌≡◌ {A = ℕ} 0 1 = cc in omega arith
kinds_apart' (Err e) h = let z : ◌≡◌ {A = ℕ} 0 1 = cc in omega arith

module _ (bs : List ℕ) (small : Small bs) where
  pub printed_exact : Decides (is_ok (printed_check bs)) (PrintedOf bs)
  printed_exact = (λ h. printed_content bs small (printed_good bs (ok_is (printed_check bs) h)), λ c. ap is_ok (printed-right bs (printed-held bs c)))

  pub clock_exact : Decides (is_ok (clock_check bs)) (ClockOf bs)
  clock_exact = (λ h. clock_content bs small (clock_good bs (ok_is (clock_check bs) h)), λ c. ap is_ok (clock_right bs (clock_held bs c)))

  printed_is : PrintedOf bs → is_clock bs ≡ false
  printed_is c = let h = (printed-held bs c).head.due in let k = h.kind_due in grind (arith, nat_tests, k)

  clock_is : ClockOf bs → is_clock bs ≡ true
  clock_is c = let h = (clock_held bs c).head.due in let k = h.kind_due in let l = h.inside in grind (arith, nat_tests, k, l)

  pub image_tells : Tells bs (image_check bs)
  image_tells = record {
    printed = λ h. ⊎_elim (λ y. absurd (kinds_apart (clock_check bs) (rw y at h))) (λ n. printed_exact.0 (passed (printed_check bs) Printed Printed (rw n at h))) (cases_Bool (is_clock bs));
    all_printed = λ c. rw (printed_is c, ok_is (printed_check bs) (printed_exact.1 c));
    clock_face = λ h. ⊎_elim (λ y. clock_exact.0 (passed (clock_check bs) ClockFace ClockFace (rw y at h))) (λ n. absurd (kinds_apart' (printed_check bs) (rw n at h))) (cases_Bool (is_clock bs));
    all_clock_face = λ c. rw (clock_is c, ok_is (clock_check bs) (clock_exact.1 c));
  }

told_after : {X : Type 0} (r : Check) (x : X) (W : Fault → Type 0) (e : Fault) → Told r W e → Told (result_and r (Ok x)) W e
told_after (Ok y) x W e t = (λ h. let z : ◌≡◌ {A = ℕ} 0 1 = cc in absurd (omega arith), λ h. let w = t.1 h in let z : ◌≡◌ {A = ℕ} 0 1 = cc in absurd (omega arith))
told_after (Err f) x W e t = (λ h. t.0 (let s : f ≡ e = cc in ap Err s), λ h. let w = t.1 h in let s : f ≡ e = cc in ap Err s)

told_when : {X : Type 0} (r s : Result X Fault) (W V : Fault → Type 0) (b : Bool) (e : Fault) → Told r W e → Told s V e → Told (cond b r s) (λ g. MatchBool b (W g) (V g)) e
told_when r s W V true e x y = x
told_when r s W V false e x y = y

pub image_first : (bs : List ℕ) (e : Fault) → Told (image_check bs) (Wrong bs) e
image_first bs e =
    told_when (result_and (clock_check bs) (Ok ClockFace)) (result_and (printed_check bs) (Ok Printed)) (ClockWrong bs) (PrintedWrong bs) (is_clock bs) e
    (told_after (clock_check bs) ClockFace (ClockWrong bs) e (clock_first bs e)) (told_after (printed_check bs) Printed (PrintedWrong bs) e (printed_first bs e))
