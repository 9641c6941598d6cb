-- Which line of a timetable a fault is about. Assumes nothing.
use Rattle.std.specs.Prelude.{ℕ, cond, List, length, Some, None, Option, nat_lt, slice_index}
use Rattle.image.specs.declared.fault.Part.{Part}
use Rattle.image.specs.declared.fault.Part.TheVariants.{Heading, Quays, Entries, End}

abbrev pub row_of : List ℕ → ℕ → Option ℕ
row_of lines row = cond (nat_lt row (length lines)) (Some (slice_index lines row)) None

-- the line of the record that is wrong
abbrev pub blamed : Part → ℕ → List ℕ → List ℕ → Option ℕ
blamed Heading row quays sailings = None
blamed Quays row quays sailings = row_of quays row
blamed Entries row quays sailings = row_of sailings row
blamed End row quays sailings = None
