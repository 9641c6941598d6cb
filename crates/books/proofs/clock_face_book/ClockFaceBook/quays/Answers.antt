use Rattle.std.proofs.Common.{sym, ap, ◌∙◌}
use Rattle.image.specs.Records.{quays_in}
use Rattle.image.proofs.Tables.{quays_are}
use Rattle.books.proofs.clock_face_book.ClockFaceBook.quays.Goals as goal

pub returns : goal.returns
returns c = c.quays.ensures ∙ ap quays_in c.image.ensures ∙ sym (quays_are c.args.self.now.bytes.now)
