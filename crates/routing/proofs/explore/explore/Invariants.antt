use Rattle.std.proofs.Common.{◌-◌, length}
use Rattle.routing.specs.Labels.{settled}
use Rattle.routing.specs.Turns.{Going}
use Rattle.routing.proofs.explore.explore.Given as goal

abbrev pub invariant-turns : goal.invariant-turns
invariant-turns g l = Going (g.B.Book.meaning l.book) l.trip l.labels (g.L.Line.keys l.line) l.spans

abbrev pub decreases-turns : goal.decreases-turns
decreases-turns g l = length l.labels - settled l.labels
