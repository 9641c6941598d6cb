-- The classes of cargo. Assumes nothing.
use Rattle.std.specs.Prelude.{ℕ, List, [], ◌∷◌, Result, slice_index}
use Rattle.timetable.specs.declared.refusal.Refusal.{Refusal}
use Rattle.timetable.specs.declared.refusal.Refusal.TheVariants.{NoClass}
use Rattle.timetable.specs.Answers.{asked}

-- the minutes that classes 0 to 7 add to each change
abbrev pub figures : List ℕ
figures = 0 ∷ 5 ∷ 10 ∷ 15 ∷ 20 ∷ 25 ∷ 30 ∷ 45 ∷ []

-- the largest of them
abbrev pub most : ℕ
most = 45

unfoldable pub class_minutes : ℕ → ℕ
class_minutes c = slice_index figures c

abbrev pub minutes_for : ℕ → Result ℕ Refusal
minutes_for c = asked figures c 0 NoClass
