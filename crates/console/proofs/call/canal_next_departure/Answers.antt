use Rattle.std.proofs.Common.{arith}
use Rattle.image.specs.Checks.{image_check}
use Rattle.image.proofs.Contained.{Small}
use Rattle.image.proofs.Exact.{image_tells, image_first}
use Rattle.console.proofs.Answered.{answered, one_answer}
use Rattle.console.proofs.call.canal_next_departure.Goals as goal

pub returns : goal.returns
returns c =
    let bs = c.args.image.now in
    let q = c.args.quay in
    let u = c.args.minute in
    let given = c.args.answer.now in
    let small : Small bs = λ i. let f = c.type_inv.image i in omega (arith, f) in
    record {
      answers = answered bs q u given c.tell.new.answer c.tell.result small (image_check bs) (image_tells bs small) (image_first bs) (c.tell.ensures.left, c.tell.ensures.code);
      alone = one_answer bs (image_check bs) (image_tells bs small) (image_first bs) q u given;
    }
