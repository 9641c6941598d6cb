use Rattle.std.proofs.Common.{rules, ◌≡◌, cond, Ok, sym, ap, ◌∙◌, subst, arith}
use Rattle.image.specs.Checks.{image_check}
use Rattle.image.specs.Faults.{Wrong, Told}
use Rattle.image.specs.Openings.{blank_image}
use Rattle.image.specs.declared.fault.Kind.TheVariants.{Printed, ClockFace}
use Rattle.image.proofs.Contained.{Small}
use Rattle.image.proofs.Exact.{printed_exact, clock_exact}
use Rattle.image.proofs.Opened.{printed_opens, clock_opens}
use Rattle.books.specs.Opened.{kind_told}
use Rattle.books.proofs.opened.Opened.open.Goals as goal

pub returns-in-Printed-clause-means : goal.returns-in-Printed-clause-means
returns-in-Printed-clause-means c =
    let bs = c.args.bytes.now in
    let small : Small bs = λ i. let f = c.type_inv.bytes i in omega (arith, f) in
    let told : c.check_image.result ≡ Ok Printed = search rules in
    printed_opens bs small bs (sym (ap (λ b. cond b bs (blank_image 1)) ((printed_exact bs small).1 (c.check_image.ensures.exact.printed told))))

pub returns-in-ClockFace-clause-means : goal.returns-in-ClockFace-clause-means
returns-in-ClockFace-clause-means c =
    let bs = c.args.bytes.now in
    let small : Small bs = λ i. let f = c.type_inv.bytes i in omega (arith, f) in
    let told : c.check_image.result ≡ Ok ClockFace = search rules in
    clock_opens bs small bs (sym (ap (λ b. cond b bs (blank_image 2)) ((clock_exact bs small).1 (c.check_image.ensures.exact.clock_face told))))

pub returns-in_err-check_image-clause-first : goal.returns-in_err-check_image-clause-first
returns-in_err-check_image-clause-first c e =
    let told : kind_told c.from_residual.result ≡ image_check c.args.bytes.now = search rules in
    subst (λ r. Told r (Wrong c.args.bytes.now) e) (c.check_image.ensures.value ∙ sym told) (c.check_image.ensures.first e)
