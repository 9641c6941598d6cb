use Rattle.std.proofs.Common.{◌≡◌, take}
use Rattle.std.specs.List.{flat_map}
use Rattle.image.specs.Layout.{two}
use Rattle.binder.specs.Binding.{written}
use Rattle.binder.proofs.records.put_numbers.Given as goal

abbrev pub invariant-loop-i : goal.invariant-loop-i
invariant-loop-i l = l.image ≡ written l.at (flat_map two (take l.i l.numbers)) l.initial.image
