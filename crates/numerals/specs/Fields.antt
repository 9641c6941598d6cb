-- What it is to read a field of a line. Assumes nothing.
use Rattle.std.specs.Prelude.{◌≡◌, Some, Option}
use Rattle.numerals.specs.declared.field.Field.{Field}

-- a field is the answer exactly where it stands there
abbrev pub Reads : {T : Type 0} → Option (Field T) → Field T → Type 0 → Type 0
Reads r f Stands = (r ≡ Some f → Stands) × (Stands → r ≡ Some f)
