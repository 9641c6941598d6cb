use Rattle.std.proofs.Common.{◌≡◌, ℕ, ◌+◌, ◌<◌, ◌≤◌, List, length, get_or, take, drop, eqb, Ok, sym, ap, ◌∙◌, subst, arith, length-take, length-drop}
use Rattle.std.proofs.lemmas.Result.{err_from_is_err_and}
use Rattle.std.proofs.lemmas.List.{get_or-take, get_or-drop}
use Rattle.timetable.specs.declared.refusal.Refusal.TheVariants.{OutOfLimits}
use Rattle.image.specs.declared.fault.Part.TheVariants.{Heading}
use Rattle.image.specs.Checks.{zero_byte, unless, fault, up_to}
use Rattle.image.proofs.Walks.{up_to_more, up_to-fault}
use Rattle.image.proofs.heading.check_zeros.Goals as goal

long : (bs : List ℕ) → 16 ≤ length bs → length (take 8 (drop 8 bs)) ≡ 8
long bs h = simp (length-take, length-drop) (omega arith)

there : (bs : List ℕ) (i : ℕ) → i < 8 → unless (eqb (get_or (take 8 (drop 8 bs)) i 0) 0) (fault OutOfLimits Heading 0 (8 + i)) ≡ zero_byte bs i
there bs i l = ap (λ b. unless (eqb b 0) (fault OutOfLimits Heading 0 (8 + i))) (get_or-take 8 (drop 8 bs) i 0 l ∙ get_or-drop 8 bs i 0)

pub returns-in_err-require : goal.returns-in_err-require
returns-in_err-require c =
    let p = err_from_is_err_and c.from_residual.result c.from_residual.ensures.1 in
    let bs = c.args.bytes.now in
    let l : c.loop-i.i < 8 = omega (arith, c.loop-i-test.true, long bs c.requires) in
    rw (p.1, p.2) (sym (up_to-fault (zero_byte bs) c.loop-i.i 8 _ l c.loop-i.invariant (sym (there bs c.loop-i.i l) ∙ sym c.in_err-require.ensures)))

pub loop-i-preserved : goal.loop-i-preserved
loop-i-preserved c =
    let bs = c.args.bytes.now in
    let l : c.loop-i.i < 8 = omega (arith, c.loop-i-test.true, long bs c.requires) in
    up_to_more (zero_byte bs) c.loop-i.i c.loop-i.invariant (sym (there bs c.loop-i.i l) ∙ sym c.in_ok-require.ensures)

pub returns : goal.returns
returns c =
    let bs = c.args.bytes.now in
    let e : c.loop-i.i ≡ 8 = omega (arith, c.loop-i-test.false, c.loop-i.auto.i-end, long bs c.requires) in
    sym (subst (λ k. up_to (zero_byte bs) k ≡ Ok tt) e c.loop-i.invariant)
