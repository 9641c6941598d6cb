-- The number of each kind of record. Assumes nothing.
use Rattle.std.specs.Prelude.{ℕ}
use Rattle.image.specs.declared.record.RecordKind.{RecordKind}
use Rattle.image.specs.declared.record.RecordKind.TheVariants.{Printed, ClockFace, Quay, Sailing, Series}

abbrev pub record_number : RecordKind → ℕ
record_number Printed = 1
record_number ClockFace = 2
record_number Quay = 3
record_number Sailing = 4
record_number Series = 5
