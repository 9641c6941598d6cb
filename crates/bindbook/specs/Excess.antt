-- What a timetable has too many of: a book holds 256 quays and 3,072 sailings. Assumes nothing.
use Rattle.std.specs.Prelude.{ℕ, cond, Ok, Err, Result, nat_lt}
use Rattle.bindbook.specs.declared.excess.Excess.{Excess}
use Rattle.bindbook.specs.declared.excess.Excess.TheVariants.{Quays, Sailings}

abbrev pub fits_in : ℕ → ℕ → Result (Unit {0}) Excess
fits_in quays sailings = cond (nat_lt 256 quays) (Err Quays) (cond (nat_lt 3072 sailings) (Err Sailings) (Ok tt))
