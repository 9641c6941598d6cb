use Rattle.plantext.proofs.Legged.{leg_says_at}
use Rattle.plantext.proofs.read.read_leg.Goals as goal

pub returns : goal.returns
returns c = record { value = c.leg_line.ensures; says = leg_says_at c.args.line.now c.leg_line.result c.leg_line.ensures }
