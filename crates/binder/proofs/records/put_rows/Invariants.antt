use Rattle.std.proofs.Common.{◌≡◌, take}
use Rattle.std.specs.List.{flat_map}
use Rattle.binder.specs.Binding.{written}
use Rattle.binder.proofs.records.put_rows.Given as goal

abbrev pub invariant-loop-i : goal.invariant-loop-i
invariant-loop-i g l = l.image ≡ written l.start (flat_map g.R.Row.bytes (take l.i l.rows)) l.initial.image
