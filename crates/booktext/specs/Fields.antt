-- Fields that have to stand in a line. Assumes nothing.
use Rattle.std.specs.Prelude.{ℕ, List, Ok, Err, Result}
use Rattle.std.specs.Option.{ok_or}
use Rattle.numerals.specs.declared.field.Field.{Field}
use Rattle.numerals.specs.Numbers.{number_at}
use Rattle.numerals.specs.Times.{time_at}
use Rattle.booktext.specs.declared.entry.LineFault.{LineFault}
use Rattle.booktext.specs.declared.entry.LineFault.TheVariants.{NoNumber, NoTime}

abbrev pub number_here : List ℕ → ℕ → Result (Field ℕ) LineFault
number_here line at = ok_or (number_at line at) (NoNumber at)

abbrev pub time_here : List ℕ → ℕ → Result (Field ℕ) LineFault
time_here line at = ok_or (time_at line at) (NoTime at)

-- a fault ends the reading
abbrev pub and_then : {X Y : Type 0} → Result X LineFault → (X → Result Y LineFault) → Result Y LineFault
and_then (Ok x) k = k x
and_then (Err e) k = Err e
