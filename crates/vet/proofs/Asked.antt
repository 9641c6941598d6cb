-- A query is refused for the first of its faults, and the answer to a vetting is the only right one. Assumes nothing.
use Rattle.std.proofs.Common.{◌≡◌, ℕ, true, List, length, Some, None, Ok, Err, Decides, Option, Result, sym, ap, subst, arith}
use Rattle.timetable.specs.declared.query.Query.{Query}
use Rattle.timetable.specs.declared.query.Leg.{Leg}
use Rattle.timetable.specs.declared.refusal.Refusal.{Refusal}
use Rattle.timetable.specs.Classes.{class_minutes}
use Rattle.timetable.specs.Timetables.{Timetable}
use Rattle.journey.specs.Journeys.{start}
use Rattle.vet.specs.declared.verdict.Verdict.{Verdict}
use Rattle.vet.specs.declared.verdict.Verdict.TheVariants.{Holds, Fails}
use Rattle.timetable.specs.Queries.{query_cause, unless}
use Rattle.timetable.proofs.Queried.{Causes, cause_means}
use Rattle.vet.specs.Vetting.{verdict_on, vetted}
use Rattle.vet.specs.Verdicts.{Fits, FitsFrom, Answers, holds, SomeJourney, Vetted}
use Rattle.vet.proofs.Numbered.{query_one}
use Rattle.vet.proofs.Told.{verdict_fits, fits_verdict}

module _ (t : Timetable) (q : Query) where
  module _ (plan : List Leg) where
    from_fits : (v : Verdict) → FitsFrom t (class_minutes q.class) (start q.from q.minute) plan q.to v → Fits t q plan v
    from_fits (Holds a) h = h
    from_fits (Fails k e) h = h

    fits_from : (v : Verdict) → Fits t q plan v → FitsFrom t (class_minutes q.class) (start q.from q.minute) plan q.to v
    fits_from (Holds a) h = h
    fits_from (Fails k e) h = h

    fits : Fits t q plan (verdict_on t q plan)
    fits = from_fits _ (verdict_fits t (class_minutes q.class) (start q.from q.minute) plan q.to)

    answers : Answers t q plan (vetted t q plan)
    answers = go (query_cause q (length t.changes)) (cause_means q (length t.changes))
      where
        go : (c : Option Refusal) → Causes q (length t.changes) c → Answers t q plan (unless c (verdict_on t q plan))
        go None h = (h, fits)
        go (Some e) h = h

    only : (o : Result Verdict Refusal) → Answers t q plan o → o ≡ vetted t q plan
    only o = go (query_cause q (length t.changes)) (cause_means q (length t.changes)) o
      where
        go : (c : Option Refusal) → Causes q (length t.changes) c → (o : Result Verdict Refusal) → Answers t q plan o → o ≡ unless c (verdict_on t q plan)
        go None h (Ok v) a = ap Ok (sym (fits_verdict t (class_minutes q.class) (start q.from q.minute) plan q.to v (fits_from v a.1)))
        go None h (Err e) a = absurd (h e a.wrong)
        go (Some e) h (Ok v) a = absurd (a.0 e h.wrong)
        go (Some e) h (Err f) a = ap Err (query_one t q f e a h)

    exact : Decides (holds (vetted t q plan)) (SomeJourney t q plan)
    exact = ((λ h. yes (vetted t q plan) answers h), λ (clear, (a, j)). ap holds (sym (only (Ok (Holds a)) (clear, j))))
      where
        yes : (r : Result Verdict Refusal) → Answers t q plan r → holds r ≡ true → SomeJourney t q plan
        yes (Ok (Holds a)) h e = (h.0, (a, h.1))
        yes (Ok (Fails k f)) h e = let z : ◌≡◌ {A = ℕ} 0 1 = cc in absurd (omega arith)
        yes (Err f) h e = let z : ◌≡◌ {A = ℕ} 0 1 = cc in absurd (omega arith)

    pub vetted-right : Vetted t q plan (vetted t q plan)
    vetted-right = record { right = answers; only = only; exact = exact }

    pub vetted_at : (r : Result Verdict Refusal) → r ≡ vetted t q plan → Vetted t q plan r
    vetted_at r e = subst (Vetted t q plan) (sym e) vetted-right
