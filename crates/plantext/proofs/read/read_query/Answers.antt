use Rattle.plantext.proofs.Queried.{query_says_at}
use Rattle.plantext.proofs.read.read_query.Goals as goal

pub returns : goal.returns
returns c = record { value = c.query_line.ensures; says = query_says_at c.args.line.now c.query_line.result c.query_line.ensures }
