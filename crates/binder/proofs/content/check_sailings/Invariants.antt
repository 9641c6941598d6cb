use Rattle.std.proofs.Common.{◌≡◌, Ok}
use Rattle.image.specs.Checks.{up_to}
use Rattle.binder.specs.Content.{sailing_row, before}
use Rattle.binder.proofs.content.check_sailings.Given as goal

abbrev pub invariant-loop-row : goal.invariant-loop-row
invariant-loop-row l = (up_to (sailing_row l.quays l.sailings) l.row ≡ Ok tt) × (l.before ≡ before l.sailings l.row)
