-- How each command is typed: a letter, and numbers after it. Assumes nothing.
use Rattle.std.specs.Prelude.{◌≡◌, ℕ, cond, List, [], ◌∷◌, Some, None, Option, ◌==◌}
use Rattle.numerals.specs.Numbers.{Numeral}
use Rattle.timetable.specs.declared.call.Call.{Call}
use Rattle.timetable.specs.declared.call.Call.TheVariants.{Withhold, Release, Shut, Open, Thin, Route}

-- W, R, S, O, T and Q
abbrev pub letter_of : Call → ℕ
letter_of (Withhold run) = 87
letter_of (Release run) = 82
letter_of (Shut quay) = 83
letter_of (Open quay) = 79
letter_of Thin = 84
letter_of (Route q) = 81

abbrev pub numbers_of : Call → List ℕ
numbers_of (Withhold run) = run ∷ []
numbers_of (Release run) = run ∷ []
numbers_of (Shut quay) = quay ∷ []
numbers_of (Open quay) = quay ∷ []
numbers_of Thin = []
numbers_of (Route q) = q.from ∷ q.to ∷ q.minute ∷ q.class ∷ []

-- how many numbers are due after a byte, if it is a letter
abbrev pub due : ℕ → Option ℕ
due letter =
    cond (letter == 87) (Some 1)
    (cond (letter == 82) (Some 1)
    (cond (letter == 83) (Some 1)
    (cond (letter == 79) (Some 1)
    (cond (letter == 84) (Some 0)
    (cond (letter == 81) (Some 4) None)))))

-- these numbers stand in the line one after the other, from byte `at` on and before byte `end`
abbrev pub Stand : List ℕ → ℕ → List ℕ → ℕ → Type 0
Stand line at [] end = at ≡ end
Stand line at (v ∷ vs) end = (next : ℕ) × Numeral line at (record { value = v; next = next }) × Stand line next vs end
