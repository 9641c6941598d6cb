-- What a table of numbers keeps. Assumes nothing.
use Rattle.std.specs.Prelude.{ℕ, List}
use Rattle.tables.specs.declared.numbers.Numbers.{Numbers}

-- its numbers, in the order in which they were accepted
abbrev pub kept : {n : ℕ} → Numbers n → List ℕ
kept r = r.at.items
