-- What can be wrong with a query. Assumes nothing.
use Rattle.std.specs.Prelude.{◌≡◌, ℕ, ◌≤◌, cond, ◌⊎◌, length, Some, None, Ok, Err, Option, Result, nat_lt}
use Rattle.timetable.specs.declared.query.Query.{Query}
use Rattle.timetable.specs.declared.refusal.Refusal.{Refusal}
use Rattle.timetable.specs.declared.refusal.Refusal.TheVariants.{NoQuay, LateMinute, NoClass}
use Rattle.timetable.specs.Refusals.{number_of}
use Rattle.timetable.specs.Classes.{figures}
use Rattle.timetable.specs.Times.{day}

-- the refusal f is due where P is so
abbrev pub Is : Refusal → Type 0 → Refusal → Type 0
Is f P e = P × (e ≡ f)

-- of all that is wrong, no other has a lower number
pub record Lowest (Wrong : Refusal → Type 0) (e : Refusal) : Type 0 where
  pub wrong : Wrong e
  pub lowest : (f : Refusal) → Wrong f → number_of e ≤ number_of f

-- a query from or to no quay of a book with this many, after the last minute of the day, or with no class of cargo
abbrev pub Unfit : Query → ℕ → Refusal → Type 0
Unfit q quays e =
    Is NoQuay ((quays ≤ q.from) ⊎ (quays ≤ q.to)) e
    ⊎ (Is LateMinute (day ≤ q.minute) e
    ⊎ Is NoClass (length figures ≤ q.class) e)

-- the first cause for which a query is refused, if any, in a book with this many quays
abbrev pub query_cause : Query → ℕ → Option Refusal
query_cause q quays =
    cond (nat_lt q.from quays) (cond (nat_lt q.to quays)
    (cond (nat_lt q.minute day)
    (cond (nat_lt q.class (length figures))
    None
    (Some NoClass))
    (Some LateMinute))
    (Some NoQuay)) (Some NoQuay)

-- what is told where there is no cause to refuse
abbrev pub unless : {X : Type 0} → Option Refusal → X → Result X Refusal
unless None x = Ok x
unless (Some e) x = Err e

-- a query passes if nothing is wrong with it, and else the lowest number is told of what is wrong
abbrev pub Judges : Query → ℕ → Result Unit Refusal → Type 0
Judges q quays (Ok _) = (e : Refusal) → Unfit q quays e → ⊥
Judges q quays (Err e) = Lowest (Unfit q quays) e
