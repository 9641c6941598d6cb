-- What it is for a query or a leg to stand in a line. Assumes nothing.
use Rattle.std.specs.Prelude.{◌≡◌, ℕ, ◌<◌, ◌≤◌, ◌⊎◌, List, [], ◌∷◌, length, take}
use Rattle.timetable.specs.declared.query.Query.{Query}
use Rattle.timetable.specs.declared.query.Leg.{Leg}
use Rattle.numerals.specs.declared.field.Field.{Field}
use Rattle.numerals.specs.Numbers.{Numeral, WideNumeral}
use Rattle.timetable.specs.declared.call.Call.TheVariants.{Route}
use Rattle.typed.specs.Saying.{Asks, Misses, Exceeds}

-- a line of at most 64 bytes that begins with this letter
abbrev pub Begins : List ℕ → ℕ → Type 0
Begins line letter = (length line ≤ 64) × (take 1 line ≡ letter ∷ [])

-- as one that asks for a route: the letter Q and its four numbers, and nothing else; or too few of them, or more
abbrev pub QueryStands : List ℕ → Query → Type 0
QueryStands line q = Asks line (Route q)

abbrev pub QueryMisses : List ℕ → Type 0
QueryMisses line = Misses line

abbrev pub QueryExceeds : List ℕ → Type 0
QueryExceeds line = Exceeds line

-- the letter L, byte 76, and three numbers, one after the other, and nothing else
pub record LegStands (line : List ℕ) (leg : Leg) : Type 0 where
  pub begins : Begins line 76
  pub after_place : ℕ
  pub place : Numeral line 1 (record { value = leg.place; next = after_place })
  pub after_leaves : ℕ
  pub leaves : WideNumeral line after_place (record { value = leg.leaves; next = after_leaves })
  pub arrives : WideNumeral line after_leaves (record { value = leg.arrives; next = length line })

-- none stands where the first number is due, or the second, or the third
abbrev pub LegMisses : List ℕ → Type 0
LegMisses line =
    ((p : Field ℕ) → Numeral line 1 p → ⊥)
    ⊎ ((p : Field ℕ) × Numeral line 1 p
    × (((l : Field ℕ) → WideNumeral line p.next l → ⊥)
    ⊎ ((l : Field ℕ) × WideNumeral line p.next l
    × ((a : Field ℕ) → WideNumeral line l.next a → ⊥))))

-- all three stand there, and the line goes on
pub record LegExceeds (line : List ℕ) : Type 0 where
  pub place : Field ℕ
  pub leaves : Field ℕ
  pub arrives : Field ℕ
  pub place_stands : Numeral line 1 place
  pub leaves_stands : WideNumeral line place.next leaves
  pub arrives_stands : WideNumeral line leaves.next arrives
  pub more : arrives.next < length line
