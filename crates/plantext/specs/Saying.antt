-- What is said of a line. Assumes nothing.
use Rattle.std.specs.Prelude.{◌≡◌, ℕ, ◌<◌, ◌≤◌, ◌⊎◌, List, [], ◌∷◌, length, take, Ok, Err, Result, ◌≢◌}
use Rattle.timetable.specs.declared.refusal.Refusal.{Refusal}
use Rattle.timetable.specs.declared.refusal.Refusal.TheVariants.{NoLetter, NoNumber, Surplus, LongLine}
use Rattle.timetable.specs.declared.query.Query.{Query}
use Rattle.timetable.specs.declared.query.Leg.{Leg}
use Rattle.plantext.specs.Standing.{Begins, QueryStands, QueryMisses, QueryExceeds, LegStands, LegMisses, LegExceeds}

-- the refusal f is due where P is so
abbrev pub Is : Refusal → Type 0 → Refusal → Type 0
Is f P e = P × (e ≡ f)

-- what is wrong with a line that is due to begin with this letter: it is too long, begins otherwise, misses a number, or goes on after the last
abbrev pub Fault : List ℕ → ℕ → Type 0 → Type 0 → Refusal → Type 0
Fault line letter Missing Exceeding e =
    Is LongLine (64 < length line) e
    ⊎ (Is NoLetter ((length line ≤ 64) × (take 1 line ≢ letter ∷ [])) e
    ⊎ (Is NoNumber (Begins line letter × Missing) e
    ⊎ Is Surplus (Begins line letter × Exceeding) e))

abbrev pub Answers : {X : Type 0} → (X → Type 0) → (Refusal → Type 0) → Result X Refusal → Type 0
Answers Stands Wrong (Ok x) = Stands x
Answers Stands Wrong (Err e) = Wrong e

-- the answer is right, and no other is
pub record Says {X : Type 0} (Stands : X → Type 0) (Wrong : Refusal → Type 0) (r : Result X Refusal) : Type 0 where
  pub right : Answers Stands Wrong r
  pub only : (o : Result X Refusal) → Answers Stands Wrong o → o ≡ r

-- Q is byte 81
abbrev pub QuerySays : List ℕ → Result Query Refusal → Type 0
QuerySays line r = Says (QueryStands line) (Fault line 81 (QueryMisses line) (QueryExceeds line)) r

-- L is byte 76
abbrev pub LegSays : List ℕ → Result Leg Refusal → Type 0
LegSays line r = Says (LegStands line) (Fault line 76 (LegMisses line) (LegExceeds line)) r
