use Rattle.std.proofs.Common.{ap, ◌∙◌}
use Rattle.std.proofs.lemmas.Result.{err_from_is_err_and}
use Rattle.typed.specs.Fields.{and_then}
use Rattle.plantext.specs.Lines.{query_in}
use Rattle.plantext.proofs.Queried.{line_is}
use Rattle.plantext.proofs.read.query_line.Goals as goal

pub returns-in_err-read_command : goal.returns-in_err-read_command
returns-in_err-read_command c =
    let p = err_from_is_err_and c.from_residual-in_err-read_command.result c.from_residual-in_err-read_command.ensures.1 in
    rw (p.1, p.2)
    (ap (λ r. and_then r query_in) c.in_err-read_command.ensures.value ∙ line_is c.args.line.now c.in_ok-begins.field-0 c.in_ok-begins.ensures)
