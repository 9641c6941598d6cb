use Rattle.std.proofs.Common.{ap, ◌∙◌}
use Rattle.image.specs.Records.{quays_in}
use Rattle.image.specs.Meanings.{below, clock_sailings}
use Rattle.image.proofs.Clocks.{all_below_lem}
use Rattle.books.proofs.clock_face_book.ClockFaceBook.places.Goals as goal

pub returns : goal.returns
returns c =
    let bs = c.args.self.now.bytes.now in
    c.leaving_below.ensures ∙ ap (λ n. below n (clock_sailings bs)) (c.quays.ensures ∙ ap quays_in c.image.ensures) ∙ all_below_lem bs c.args.self.now.sound
