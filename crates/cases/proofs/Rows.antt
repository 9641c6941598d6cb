-- The table of worked cases as one computed test. Assumes nothing.
use Rattle.std.proofs.Common.{◌≡◌, ℕ, Bool, true, List, [], ◌∷◌, map, Some, None, Option, refl}
use Rattle.std.specs.List.{All, list_all}
use Rattle.std.proofs.lemmas.List.Elements.{All-weaker}
use Rattle.std.proofs.lemmas.List.Sums.{AllPass-from_list_all}
use Rattle.std.proofs.lemmas.Bool.{and_parts, false≢true}
use Rattle.timetable.specs.declared.query.Query.{Query}
use Rattle.timetable.specs.declared.query.Leg.{Leg}
use Rattle.timetable.specs.Classes.{class_minutes}
use Rattle.timetable.specs.Timetables.{Timetable}
use Rattle.journey.specs.Journeys.{start}
use Rattle.cases.specs.declared.case.Case.{Case}
use Rattle.cases.specs.Mill.{mill}
use Rattle.cases.proofs.Tests.{Potential, leads_to, no_legs, holds}
use Rattle.cases.specs.Cases.{asks, questions, question_of, book_for, Answered, Right, Worked}
use Rattle.cases.proofs.Bounds.{bounds_for}
use Rattle.cases.proofs.Plans.{plan_leads}
use Rattle.cases.proofs.Potentials.{no_sooner_lem}

no_legs_lem : (legs : List Leg) → no_legs legs ≡ true → legs ≡ []
no_legs_lem [] h = refl
no_legs_lem (x ∷ xs) h = absurd (false≢true h)

-- what passes the test is right
pub answered : (t : Timetable) (q : Query) (answer : Option ℕ) (legs : List Leg) (bounds : Potential) → holds t q answer legs bounds ≡ true → Answered t q answer legs
answered t q None legs bounds h =
    let both = and_parts (no_legs legs) _ h in
    (no_legs_lem legs both.0, no_sooner_lem t q None bounds both.1)
answered t q (Some a) legs bounds h =
    let both = and_parts (leads_to t (class_minutes q.class) (start q.from q.minute) legs q.to a) _ h in
    (plan_leads t _ _ legs q.to a both.0, no_sooner_lem t q (Some a) bounds both.1)

-- the test of a case
abbrev pub row_holds : Case → Bool
row_holds c =
    let t = book_for c.change c.shut in
    holds t c.query c.arrival c.plan.now (bounds_for t c.query)

-- the test of the whole table
abbrev pub table_holds : List Case → Bool
table_holds cases = list_all row_holds cases

pub table_right : (cases : List Case) → table_holds cases ≡ true → All Right cases
table_right cases h =
    All-weaker (λ c. row_holds c ≡ true) Right (λ c e. answered (book_for c.change c.shut) c.query c.arrival c.plan.now _ e) cases
    (AllPass-from_list_all row_holds cases h)

pub worked : (cases : List Case) → map question_of cases ≡ questions → table_holds cases ≡ true → Worked cases
worked cases e h = record {
  asked = e;
  right = table_right cases h;
  never = λ m k. no_sooner_lem (mill 30) (asks 3 0 m k) None [] refl;
}
