use Rattle.std.proofs.Common.{Some, Ok, sym, ap, ◌∙◌, arith}
use Rattle.image.specs.Records.{entries_in, quays_in, entry_at, sailing_at}
use Rattle.image.proofs.Prints.{row_told, row_untold}
use Rattle.books.proofs.printed_book.PrintedBook.place.Goals as goal

pub returns-then-place-entries : goal.returns-then-place-entries
returns-then-place-entries c = sym (row_untold c.args.self.now.bytes.now c.args.place (omega (arith, c.entries.ensures, ap entries_in c.image-image.ensures)))

pub returns : goal.returns
returns c =
    let bs = c.args.self.now.bytes.now in
    let same = c.image-image.ensures in
    let at = c.record.ensures.at ∙ ap (λ b. entry_at 16 (quays_in b) c.args.place) same in
    ap (λ s. Ok (Some s)) (c.sailing.ensures ∙ ap (λ b. sailing_at b c.record.result.at) (c.record.ensures.bytes ∙ same) ∙ ap (sailing_at bs) at)
    ∙ sym (row_told bs c.args.place (omega (arith, c.entries.ensures, ap entries_in same)))
