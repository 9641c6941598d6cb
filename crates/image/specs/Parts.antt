-- The number of each part of an image. Assumes nothing.
use Rattle.std.specs.Prelude.{ℕ}
use Rattle.image.specs.declared.fault.Part.{Part}
use Rattle.image.specs.declared.fault.Part.TheVariants.{Heading, Quays, Entries, End}

abbrev pub part_number : Part → ℕ
part_number Heading = 1
part_number Quays = 2
part_number Entries = 3
part_number End = 4
