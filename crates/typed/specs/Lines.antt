-- The lines of answers. Assumes nothing.
use Rattle.std.specs.Prelude.{ℕ, cond, List, [], ◌∷◌, ◌++◌, length, drop, Ok, Err, Result, nat_lt}
use Rattle.std.specs.List.{flat_map}
use Rattle.timetable.specs.declared.refusal.Refusal.{Refusal}
use Rattle.timetable.specs.declared.refusal.Refusal.TheVariants.{ShortBuffer}
use Rattle.typed.specs.declared.text.Text.{Text}
use Rattle.typed.specs.declared.text.Text.TheVariants.{Accepted, Thinned, NoWay, Arrives, Leg, Refused, BadImage}
use Rattle.typed.specs.Digits.{digits}

-- a space and a number
abbrev pub spaced : ℕ → List ℕ
spaced n = 32 ∷ digits n

-- a letter, numbers, and byte 10, which ends the line
abbrev pub line_with : ℕ → List ℕ → List ℕ
line_with letter numbers = (letter ∷ flat_map spaced numbers) ++ 10 ∷ []

-- K is byte 75, T 84, N 78, A 65, L 76 and E 69
abbrev pub line_of : Text → List ℕ
line_of Accepted = line_with 75 []
line_of (Thinned count) = line_with 84 (count ∷ [])
line_of NoWay = line_with 78 []
line_of (Arrives arrival legs) = line_with 65 (arrival ∷ legs ∷ [])
line_of (Leg run leg from to leaves arrives) = line_with 76 (run ∷ leg ∷ from ∷ to ∷ leaves ∷ arrives ∷ [])
line_of (Refused number) = line_with 69 (number ∷ [])
line_of (BadImage number byte) = line_with 69 (number ∷ byte ∷ [])

-- the length of bytes that fit into so much room
abbrev pub length_in : List ℕ → ℕ → Result ℕ Refusal
length_in bs room = cond (nat_lt room (length bs)) (Err ShortBuffer) (Ok (length bs))

-- a buffer with bytes written over its front, where they fit
abbrev pub written_over : List ℕ → List ℕ → List ℕ
written_over bs old = cond (nat_lt (length old) (length bs)) old (bs ++ drop (length bs) old)
