use Rattle.std.proofs.Common.{◌≡◌, drop}
use Rattle.vet.specs.Standings.{stand_of}
use Rattle.vet.specs.Vetting.{later, verdict_from, verdict_on}
use Rattle.vet.proofs.vet.walk.Given as goal

abbrev pub invariant-loop-k : goal.invariant-loop-k
invariant-loop-k g l =
    later l.k (verdict_from (g.B.Book.meaning l.book) l.extra (stand_of l.here) (drop l.k l.plan) l.query.to)
    ≡ verdict_on (g.B.Book.meaning l.book) l.query l.plan
