use Rattle.std.proofs.Common.{◌≡◌, sym, subst, rules}
use Rattle.booktext.specs.Lines.{line_of, Says}
use Rattle.booktext.proofs.Sayings.{says}
use Rattle.booktext.proofs.line.read_line.Goals as goal

pub returns-then-is_empty-clause-exact : goal.returns-then-is_empty-clause-exact
returns-then-is_empty-clause-exact c =
    let line = c.args.line.now in
    let e : _ ≡ line_of line = search rules in
    subst (λ r. Says line r) (sym e) (says line)

pub returns-clause-exact : goal.returns-clause-exact
returns-clause-exact c =
    let line = c.args.line.now in
    let e : _ ≡ line_of line = search rules in
    subst (λ r. Says line r) (sym e) (says line)
