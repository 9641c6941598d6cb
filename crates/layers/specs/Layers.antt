-- The three layers, by their names. Assumes nothing.
use Rattle.tables.specs.declared.marks.Marks.{Marks}
use Rattle.layers.specs.declared.layer.Layer.{Layer}
use Rattle.layers.specs.declared.withholding.Runs.{Runs}
use Rattle.layers.specs.declared.shutting.Quays.{Quays}

abbrev pub Withholding : Type 0 → Type 0
Withholding B = Layer B Runs

abbrev pub Shutting : Type 0 → Type 0
Shutting B = Layer B Quays

abbrev pub Thinned : Type 0 → Type 0
Thinned B = Layer B Marks
