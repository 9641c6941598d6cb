-- The label of which buffers are made. Assumes nothing.
use Rattle.routing.specs.declared.label.Label.{Label}
use Rattle.routing.specs.declared.label.Label.TheVariants.{Unseen}

abbrev pub blank_label : Label
blank_label = Unseen
