-- The call is answered as it should be, and in no other way. Assumes nothing.
use Rattle.std.proofs.Common.{◌≡◌, ℕ, ◌<◌, ◌≤◌, List, length, Some, None, Ok, Err, Option, Result, sym, refl, ap, ◌∙◌, subst, ⊎_elim}
use Rattle.std.proofs.lemmas.Bool.{cases_lt}
use Rattle.timetable.specs.declared.refusal.Refusal.{Refusal}
use Rattle.timetable.specs.Times.{day}
use Rattle.timetable.specs.Timetables.{Timetable, Lawful}
use Rattle.image.specs.declared.fault.Fault.{Fault}
use Rattle.image.specs.declared.fault.Kind.{Kind}
use Rattle.image.specs.declared.fault.Kind.TheVariants.{Printed, ClockFace}
use Rattle.image.specs.Faults.{Wrong, Told}
use Rattle.image.specs.Images.{Tells}
use Rattle.image.specs.Meanings.{printed, clock_face}
use Rattle.image.proofs.Clocks.{clock_lawful}
use Rattle.image.proofs.Contained.{Small}
use Rattle.image.proofs.Exact.{printed_exact, clock_exact}
use Rattle.image.proofs.Prints.{printed_lawful}
use Rattle.image.proofs.Same.{printed_same, clock_same}
use Rattle.console.specs.Answers.{Answers, OneAnswer}
use Rattle.console.specs.Contents.{Holds}
use Rattle.console.specs.Told.{soonest, told_in, told_of, code_of, left_by}
use Rattle.console.proofs.Soonest.{none_told, some_told, told_none, told_some, earliest_soon}
use Rattle.console.proofs.Ways.{tells_no_quay, tells_late, tells_short, tells_all}

module _ (bs : List ℕ) (q u : ℕ) (given left : List ℕ) (code : ℕ) where
  -- the answer is what r says
  abbrev By : Result (Option ℕ) Refusal → Type 0
  By r = (left ≡ left_by r given) × (code ≡ code_of r)

  by_soonest : (t : Timetable) → Lawful t → Holds bs t → q < length t.changes → u < day → 4 ≤ length given →
      (o : Option ℕ) → soonest t.places q u (length t.places) ≡ o → By (Ok o) → Answers bs q u given left code
  by_soonest t law h i l r None e b = Answers.never t h i l r (none_told t q u e) b.1 b.0
  by_soonest t law h i l r (Some m) e b =
      let first = some_told t q u m e in
      Answers.leaves t m h i l r first (earliest_soon t q u law m first) b.1 b.0

  in_timetable : (t : Timetable) → Lawful t → Holds bs t → By (told_in t q u (length given)) → Answers bs q u given left code
  in_timetable t law h b =
      let n = length given in
      ⊎_elim
      (λ i. ⊎_elim
      (λ l. ⊎_elim
      (λ r. let w = subst By (tells_short t q u n i l r) b in Answers.short t h i l r w.1 w.0)
      (λ r. by_soonest t law h i l r (soonest t.places q u (length t.places)) refl (subst By (tells_all t q u n i l r) b))
      (cases_lt n 4))
      (λ l. let w = subst By (tells_late t q u n i l) b in Answers.late t h i l w.1 w.0)
      (cases_lt u day))
      (λ i. let w = subst By (tells_no_quay t q u n i) b in Answers.no_quay t h i w.1 w.0)
      (cases_lt q (length t.changes))

  pub answered : Small bs → (r : Result Kind Fault) → Tells bs r → ((e : Fault) → Told r (Wrong bs) e) → By (told_of r bs q u (length given)) → Answers bs q u given left code
  answered small (Err f) tells told b = Answers.no_image f ((told f).0 refl) b.1 b.0
  answered small (Ok Printed) tells told b =
      let c = tells.printed refl in
      in_timetable (printed bs) (printed_lawful bs ((printed_exact bs small).1 c)) (Holds.printed c (printed_same c.quays c.sailings bs c.laid)) b
  answered small (Ok ClockFace) tells told b =
      let c = tells.clock_face refl in
      in_timetable (clock_face bs) (clock_lawful bs ((clock_exact bs small).1 c)) (Holds.clock_face c (clock_same c.quays c.series bs c.laid)) b

module _ (bs : List ℕ) (r : Result Kind Fault) (tells : Tells bs r) (told : (e : Fault) → Told r (Wrong bs) e) (q u : ℕ) (given : List ℕ) where
  -- the timetable that an image holds is the one that is told of
  holds_told : (t : Timetable) → Holds bs t → told_of r bs q u (length given) ≡ told_in t q u (length given)
  holds_told t (Holds.printed c e) =
      ap (λ x. told_of x bs q u (length given)) (tells.all_printed c)
      ∙ ap (λ x. told_in x q u (length given)) (printed_same c.quays c.sailings bs c.laid ∙ sym e)
  holds_told t (Holds.clock_face c e) =
      ap (λ x. told_of x bs q u (length given)) (tells.all_clock_face c)
      ∙ ap (λ x. told_in x q u (length given)) (clock_same c.quays c.series bs c.laid ∙ sym e)

  settled : (left : List ℕ) (code : ℕ) (o : Result (Option ℕ) Refusal) → told_of r bs q u (length given) ≡ o → left ≡ left_by o given → code ≡ code_of o → By bs q u given left code (told_of r bs q u (length given))
  settled left code o e l c = (l ∙ ap (λ x. left_by x given) (sym e), c ∙ ap code_of (sym e))

  pub only : (left : List ℕ) (code : ℕ) → Answers bs q u given left code → By bs q u given left code (told_of r bs q u (length given))
  only left code (Answers.no_image e w c l) = settled left code (Err e.refusal) (ap (λ x. told_of x bs q u (length given)) ((told e).1 w)) l c
  only left code (Answers.no_quay t h i c l) = settled left code _ (holds_told t h ∙ tells_no_quay t q u (length given) i) l c
  only left code (Answers.late t h i d c l) = settled left code _ (holds_told t h ∙ tells_late t q u (length given) i d) l c
  only left code (Answers.short t h i d n c l) = settled left code _ (holds_told t h ∙ tells_short t q u (length given) i d n) l c
  only left code (Answers.never t h i d n f c l) = settled left code (Ok None) (holds_told t h ∙ tells_all t q u (length given) i d n ∙ ap Ok (told_none t q u f)) l c
  only left code (Answers.leaves t m h i d n f s c l) = settled left code (Ok (Some m)) (holds_told t h ∙ tells_all t q u (length given) i d n ∙ ap Ok (told_some t q u m f)) l c

  pub one_answer : OneAnswer bs q u given
  one_answer left other code number a b =
      let x = only left code a in
      let y = only other number b in
      (x.0 ∙ sym y.0, x.1 ∙ sym y.1)
