use Rattle.std.proofs.Common.{sym, ap, ◌∙◌}
use Rattle.image.specs.Records.{entries_in}
use Rattle.image.proofs.Prints.{places_long}
use Rattle.books.proofs.printed_book.PrintedBook.places.Goals as goal

pub returns : goal.returns
returns c = c.entries.ensures ∙ ap entries_in c.image.ensures ∙ sym (places_long c.args.self.now.bytes.now)
