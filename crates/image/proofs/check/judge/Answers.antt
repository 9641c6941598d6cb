use Rattle.std.proofs.Common.{◌≡◌, Bool, true, false, cond, List, ℕ, Ok, refl, sym, ap, ◌∙◌}
use Rattle.std.proofs.lemmas.Result.{err_from_is_err_and}
use Rattle.std.specs.Result.{result_and}
use Rattle.image.specs.declared.fault.Kind.{Kind}
use Rattle.image.specs.declared.fault.Kind.TheVariants.{Printed, ClockFace}
use Rattle.image.specs.Checks.{kind_check, is_clock, image_check, kind_of}
use Rattle.image.proofs.check.judge.Goals as goal

judged_by : (bs : List ℕ) (b : Bool) → cond b (result_and (kind_check ClockFace bs) (Ok ClockFace)) (result_and (kind_check Printed bs) (Ok Printed)) ≡ result_and (kind_check (cond b ClockFace Printed) bs) (Ok (cond b ClockFace Printed))
judged_by bs true = refl
judged_by bs false = refl

judged : (bs : List ℕ) (k : Kind) → k ≡ kind_of bs → image_check bs ≡ result_and (kind_check k bs) (Ok k)
judged bs k e = judged_by bs (is_clock bs) ∙ ap (λ k. result_and (kind_check k bs) (Ok k)) (sym e)

pub returns-in_err-judge_as : goal.returns-in_err-judge_as
returns-in_err-judge_as c =
    let p = err_from_is_err_and c.from_residual.result c.from_residual.ensures.1 in
    rw (p.1, p.2) (sym (judged c.args.image.now _ c.kind_of-kind.ensures ∙ ap (λ r. result_and r (Ok c.kind_of-kind.result)) (sym c.in_err-judge_as.ensures)))

pub returns : goal.returns
returns c = sym (judged c.args.image.now _ c.kind_of-kind.ensures ∙ ap (λ r. result_and r (Ok c.kind_of-kind.result)) (sym c.in_ok-judge_as.ensures))
