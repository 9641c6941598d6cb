use Rattle.std.proofs.Common.{◌≡◌, ◌+◌, Ok, sym, ap, ◌∙◌, subst, arith}
use Rattle.std.proofs.lemmas.Result.{err_from_is_err_and}
use Rattle.image.specs.Checks.{up_to, unless, fault}
use Rattle.image.specs.Content.{letter}
use Rattle.image.specs.Records.{quay_start}
use Rattle.image.proofs.Walks.{up_to_more, up_to-fault}
use Rattle.timetable.specs.declared.refusal.Refusal.TheVariants.{OutOfLimits}
use Rattle.image.specs.declared.fault.Part.TheVariants.{Quays}
use Rattle.image.proofs.content.check_letters.Goals as goal

pub returns-in_err-require : goal.returns-in_err-require
returns-in_err-require c =
    let p = err_from_is_err_and c.from_residual.result c.from_residual.ensures.1 in
    let e = c.in_err-require.ensures ∙ ap (λ b. unless b (fault OutOfLimits Quays c.args.row (quay_start c.args.row + 6 + c.loop-i.i))) c.is_letter.ensures in
    rw (p.1, p.2) (sym (up_to-fault (letter c.args.quay c.args.row) c.loop-i.i 10 _ c.loop-i-test.true c.loop-i.invariant (sym e)))

pub loop-i-preserved : goal.loop-i-preserved
loop-i-preserved c =
    let e = c.in_ok-require.ensures ∙ ap (λ b. unless b (fault OutOfLimits Quays c.args.row (quay_start c.args.row + 6 + c.loop-i.i))) c.is_letter.ensures in
    up_to_more (letter c.args.quay c.args.row) c.loop-i.i c.loop-i.invariant (sym e)

pub returns : goal.returns
returns c =
    let e : c.loop-i.i ≡ 10 = omega (arith, c.loop-i-test.false, c.loop-i.auto.i-end) in
    sym (subst (λ k. up_to (letter c.args.quay c.args.row) k ≡ Ok tt) e c.loop-i.invariant)
