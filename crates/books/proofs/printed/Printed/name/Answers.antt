use Rattle.std.proofs.Common.{[], sym, ap, ◌∙◌}
use Rattle.timetable.specs.Answers.{asked}
use Rattle.timetable.specs.declared.refusal.Refusal.TheVariants.{NoQuay}
use Rattle.image.specs.Names.{names_in}
use Rattle.image.proofs.Trims.{name_trims}
use Rattle.books.proofs.printed.Printed.name.Goals as goal

pub returns : goal.returns
returns c =
    let bs = c.args.self.now.bytes.now in
    let told = c.name.ensures ∙ ap (λ b. asked (names_in b) c.args.quay [] NoQuay) c.image.ensures in
    record { value = told; trims = λ n e. name_trims bs c.args.quay n (sym told ∙ e) }
