-- What a typed line says, in words. Assumes nothing.
use Rattle.std.specs.Prelude.{◌≡◌, ℕ, ◌<◌, ◌≤◌, ◌⊎◌, List, [], ◌∷◌, length, take, Some, None, Ok, Err, Result, slice_index}
use Rattle.timetable.specs.declared.refusal.Refusal.{Refusal}
use Rattle.timetable.specs.declared.refusal.Refusal.TheVariants.{NoLetter, NoNumber, Surplus, LongLine}
use Rattle.numerals.specs.declared.field.Field.{Field}
use Rattle.numerals.specs.Numbers.{Numeral}
use Rattle.timetable.specs.declared.call.Call.{Call}
use Rattle.typed.specs.Forms.{letter_of, numbers_of, due, Stand}

-- a line that is not too long and begins with this letter, after which so many numbers are due
pub record Begins (line : List ℕ) (letter count : ℕ) : Type 0 where
  pub short : length line ≤ 64
  pub first : take 1 line ≡ letter ∷ []
  pub is_due : due letter ≡ Some count

-- the line is the letter and the numbers of a command, and nothing else
pub record Asks (line : List ℕ) (c : Call) : Type 0 where
  pub begins : Begins line (letter_of c) (length (numbers_of c))
  pub stand : Stand line 1 (numbers_of c) (length line)

-- a line that is not too long, and is empty or begins with no letter
pub record Unlettered (line : List ℕ) : Type 0 where
  pub short : length line ≤ 64
  pub none : (line ≡ []) ⊎ (due (slice_index line 0) ≡ None)

-- fewer numbers stand after the letter than are due, and none stands where the next one is due
pub record Misses (line : List ℕ) : Type 0 where
  pub letter : ℕ
  pub count : ℕ
  pub read : List ℕ
  pub at : ℕ
  pub begins : Begins line letter count
  pub stand : Stand line 1 read at
  pub fewer : length read < count
  pub none : (f : Field ℕ) → Numeral line at f → ⊥

-- as many numbers stand after the letter as are due, and the line goes on
pub record Exceeds (line : List ℕ) : Type 0 where
  pub letter : ℕ
  pub count : ℕ
  pub read : List ℕ
  pub at : ℕ
  pub begins : Begins line letter count
  pub stand : Stand line 1 read at
  pub all : length read ≡ count
  pub more : at < length line

-- an answer is given exactly where a fact holds
abbrev pub Answers : {X : Type 0} → X → X → Type 0 → Type 0
Answers r a P = (r ≡ a → P) × (P → r ≡ a)

-- the answer tells what the line says, and else the first thing that is wrong with it
pub record Says (line : List ℕ) (r : Result Call Refusal) : Type 0 where
  pub asks : (c : Call) → Answers r (Ok c) (Asks line c)
  pub long : Answers r (Err LongLine) (64 < length line)
  pub unlettered : Answers r (Err NoLetter) (Unlettered line)
  pub misses : Answers r (Err NoNumber) (Misses line)
  pub exceeds : Answers r (Err Surplus) (Exceeds line)
