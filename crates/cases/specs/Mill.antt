-- The worked book. Assumes nothing.
use Rattle.std.specs.Prelude.{ℕ, List, [], ◌∷◌, map, Some, Option}
use Rattle.timetable.specs.declared.sailing.Sailing.{Sailing}
use Rattle.timetable.specs.declared.span.Span.{Span}
use Rattle.timetable.specs.Timetables.{Timetable}

abbrev pub sail : ℕ → ℕ → ℕ → ℕ → ℕ → ℕ → Sailing
sail run leg from to dep arr = record { run = run; leg = leg; from = from; to = to; dep = dep; arr = arr }

-- a row of places with no blank
abbrev pub placed : List Sailing → List (Option Sailing)
placed sailings = map (λ s. Some s) sailings

abbrev pub span : ℕ → ℕ → Span
span start end = record { start = start; end = end }

-- four quays and six sailings; cases differ in the change time of quay 1, which is 30 in the book itself
abbrev pub mill : ℕ → Timetable
mill change = record {
  changes = 5 ∷ change ∷ 10 ∷ 5 ∷ [];
  places =
      placed (
      sail 7 0 0 1 480 500 ∷
      sail 9 0 0 1 470 490 ∷
      sail 7 1 1 2 505 540 ∷
      sail 8 0 1 2 515 530 ∷
      sail 6 0 1 2 510 540 ∷
      sail 5 0 2 3 1430 10 ∷ []);
  spans = span 0 2 ∷ span 2 5 ∷ span 5 6 ∷ span 6 6 ∷ [];
}
