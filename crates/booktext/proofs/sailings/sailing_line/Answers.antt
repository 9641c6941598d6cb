-- Six fields one after the other: rewrite by what each call gave, and by the last test.
use Rattle.std.proofs.Common.{sym, eq-eqb}
use Rattle.booktext.proofs.sailings.sailing_line.Goals as goal

pub returns : goal.returns
returns c =
    simp (sym c.in_ok-run.ensures, sym c.in_ok-leg.ensures, sym c.in_ok-from.ensures, sym c.in_ok-to.ensures, sym c.in_ok-dep.ensures, sym c.in_ok-arr.ensures, eq-eqb _ _ c.if-arr-line.false)
