-- Lines that tell a quay. Assumes nothing.
use Rattle.std.specs.Prelude.{◌≡◌, ℕ, ◌+◌, ◌-◌, ◌≤◌, cond, ◌⊎◌, List, ◌++◌, length, take, drop, replicate, Ok, Err, codes, Result, ◌==◌, nat_le, nat_lt, slice_index}
use Rattle.image.specs.declared.quay.Quay.{Quay}
use Rattle.numerals.specs.Numbers.{Numeral}
use Rattle.booktext.specs.declared.entry.LineFault.{LineFault}
use Rattle.booktext.specs.declared.entry.LineFault.TheVariants.{LongName, Surplus}
use Rattle.booktext.specs.Fields.{number_here, and_then}

-- a name with spaces up to ten bytes
abbrev pub filled : List ℕ → List ℕ
filled name = name ++ replicate (10 - length name) 32

abbrev pub name_from : List ℕ → ℕ → Result (List ℕ) LineFault
name_from line at =
    cond (nat_le (length line) at) (Ok (replicate 10 32))
    (cond (slice_index line at == 32) (cond (nat_lt 10 (length (drop (at + 1) line))) (Err LongName) (Ok (filled (drop (at + 1) line)))) (Err (Surplus at)))

abbrev pub quay_of : List ℕ → Result Quay LineFault
quay_of line = and_then (number_here line 4) (λ f. and_then (name_from line f.next) (λ name. Ok (record { change = f.value; name = name })))

-- `name` is what a line tells of a name after its number, which ends at byte `end`
pub record NameAfter (line : List ℕ) (end : ℕ) (name : List ℕ) : Type 0 where
  pub parted : (end ≡ length line) ⊎ (slice_index line end ≡ 32)
  pub short : length (drop (end + 1) line) ≤ 10
  pub kept : name ≡ filled (drop (end + 1) line)

-- the word, the minutes of a change, and the name
pub record QuayLine (line : List ℕ) (q : Quay) : Type 0 where
  pub end : ℕ
  pub word : take 4 line ≡ codes "quay"
  pub minutes : Numeral line 4 (record { value = q.change; next = end })
  pub name : NameAfter line end q.name
