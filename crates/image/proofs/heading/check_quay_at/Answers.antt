use Rattle.std.proofs.Common.{refl, ap, ◌∙◌}
use Rattle.std.specs.Result.{result_and}
use Rattle.image.specs.Records.{quay_at, quay_read}
use Rattle.image.specs.Content.{quay_of}
use Rattle.image.proofs.Walks.{quay_read_is}
use Rattle.image.proofs.heading.check_quay_at.Goals as goal

pub returns : goal.returns
returns c =
    let bs = c.args.bytes.now in
    let row = c.args.row in
    let there = c.in_ok-record.ensures.record _ refl in
    let q = c.quay.ensures ∙ ap (λ b. quay_read b c.in_ok-record.record.at) there.0 ∙ ap (quay_read bs) there.1 in
    c.check_quay.ensures
    ∙ ap (λ k. quay_of k row) q
    ∙ ap (λ r. result_and r (quay_of (quay_at bs row) row)) c.in_ok-record.ensures.frame
    ∙ quay_read_is bs row
