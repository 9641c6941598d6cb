-- The worked cases, and what makes the answers to them right. Assumes nothing.
use Rattle.std.specs.Prelude.{◌≡◌, ℕ, List, [], ◌∷◌, map, Some, None, Option}
use Rattle.std.specs.List.{All}
use Rattle.timetable.specs.declared.query.Query.{Query}
use Rattle.timetable.specs.declared.query.Leg.{Leg}
use Rattle.timetable.specs.Timetables.{Timetable}
use Rattle.timetable.specs.Hiding.{hide}
use Rattle.layers.specs.Notices.{touches_shut}
use Rattle.journey.specs.Journeys.{Journey, Earliest, NoJourney}
use Rattle.cases.specs.declared.case.Case.{Case}
use Rattle.cases.specs.Mill.{mill}

-- what is asked, of the worked book with a change time of quay 1, and with a quay shut or none
pub record Question : Type 0 where
  pub change : ℕ
  pub shut : Option ℕ
  pub query : Query

abbrev pub asks : ℕ → ℕ → ℕ → ℕ → Query
asks from to minute class = record { from = from; to = to; minute = minute; class = class }

abbrev pub with_change : ℕ → Query → Question
with_change change q = record { change = change; shut = None; query = q }

abbrev pub with_shut : ℕ → Query → Question
with_shut quay q = record { change = 30; shut = Some quay; query = q }

-- the questions: from, to, minute, class
abbrev pub questions : List Question
questions =
    with_change 30 (asks 0 2 470 0) ∷
    with_change 30 (asks 0 2 481 0) ∷
    with_change 30 (asks 0 3 470 0) ∷
    with_change 30 (asks 2 2 600 0) ∷
    with_change 30 (asks 3 0 470 0) ∷
    with_change 25 (asks 0 2 470 0) ∷
    with_change 26 (asks 0 2 470 0) ∷
    with_change 25 (asks 0 2 470 1) ∷
    with_shut 1 (asks 0 2 470 0) ∷ []

abbrev pub question_of : Case → Question
question_of c = record { change = c.change; shut = c.shut; query = c.query }

abbrev pub shut_quays : Option ℕ → List ℕ
shut_quays None = []
shut_quays (Some q) = q ∷ []

-- the worked book with the change time, and without the sailings that touch the shut quay
abbrev pub book_for : ℕ → Option ℕ → Timetable
book_for change shut = hide (touches_shut (shut_quays shut)) (mill change)

-- the plan is a journey that arrives then, and no journey arrives earlier; or there is no journey, and no plan
abbrev pub Answered : Timetable → Query → Option ℕ → List Leg → Type 0
Answered t q None plan = (plan ≡ []) × NoJourney t q
Answered t q (Some a) plan = Journey t q plan a × Earliest t q a

abbrev pub Right : Case → Type 0
Right c = Answered (book_for c.change c.shut) c.query c.arrival c.plan.now

-- the cases put just the questions, and each is right; the definitions alone decide each arrival
pub record Worked (cases : List Case) : Type 0 where
  pub asked : map question_of cases ≡ questions
  pub right : All Right cases
  -- the case of quay 3 at any minute, and with any class: nothing leaves it
  pub never : (minute class : ℕ) → NoJourney (mill 30) (asks 3 0 minute class)
