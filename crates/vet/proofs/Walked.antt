-- The steps of the walk along a plan. Assumes nothing.
use Rattle.std.proofs.Common.{◌≡◌, ℕ, ◌+◌, ◌<◌, ◌≤◌, eqb, List, length, get_or, drop, Ok, Err, Result, sym, refl, ap, ◌∙◌, arith}
use Rattle.std.proofs.lemmas.List.{drop_more, drop_all}
use Rattle.std.specs.Result.{result_unwrap_or}
use Rattle.std.proofs.lemmas.Grind.{common_steps}
use Rattle.std.proofs.lemmas.Bool.{cond-true, cond-false, eq-eqb, ne_eqb}
use Rattle.timetable.specs.declared.sailing.Sailing.{Sailing}
use Rattle.timetable.specs.declared.query.Leg.{Leg}
use Rattle.timetable.specs.declared.query.Query.{Query}
use Rattle.timetable.specs.declared.refusal.Refusal.{Refusal}
use Rattle.timetable.specs.declared.refusal.Refusal.TheVariants.{EndsElsewhere}
use Rattle.timetable.specs.Classes.{class_minutes, minutes_for}
use Rattle.timetable.specs.Timetables.{Timetable}
use Rattle.journey.specs.Journeys.{Stand, start, after}
use Rattle.vet.specs.declared.verdict.Verdict.{Verdict}
use Rattle.vet.specs.declared.verdict.Verdict.TheVariants.{Holds, Fails}
use Rattle.vet.specs.Vetting.{judged, later, onward, verdict_from, verdict_on}

-- the minutes that a class adds, and none where it is told that there is no such class
pub class_read : (c : ℕ) (r : Result ℕ Refusal) (m : ℕ) → r ≡ minutes_for c → m ≡ result_unwrap_or r 0 → m ≡ class_minutes c
unfolding class_minutes
class_read c r m e h = grind (arith, common_steps)

later_none : (v : Verdict) → later 0 v ≡ v
later_none (Holds a) = refl
later_none (Fails k e) = ap (λ n. Fails n e) (omega arith)

later_more : (k : ℕ) (v : Verdict) → later k (later 1 v) ≡ later (k + 1) v
later_more k (Holds a) = refl
later_more k (Fails n e) = ap (λ n. Fails n e) (omega arith)

module _ (t : Timetable) (extra : ℕ) where
  -- no leg is judged yet
  pub begun : (q : Query) (here : Stand) (plan : List Leg) → extra ≡ class_minutes q.class → here ≡ start q.from q.minute
      → later 0 (verdict_from t extra here (drop 0 plan) q.to) ≡ verdict_on t q plan
  begun q here plan e same = later_none _ ∙ (ap (λ n. verdict_from t n here plan q.to) e ∙ ap (λ h. verdict_from t (class_minutes q.class) h plan q.to) same)

  module _ (here : Stand) (plan : List Leg) (k to : ℕ) where
    -- leg k is right
    pub went : (d : Leg) (s : Sailing) (then : Stand) → k < length plan → Ok s ≡ judged t here (get_or plan k d) → then ≡ after t extra s (get_or plan k d).arrives
        → later (k + 1) (verdict_from t extra then (drop (k + 1) plan) to) ≡ later k (verdict_from t extra here (drop k plan) to)
    went d s then inside right same =
        let leg = get_or plan k d in
        let rest = drop (k + 1) plan in
        ap (λ h. later (k + 1) (verdict_from t extra h rest to)) same
        ∙ (sym (later_more k (verdict_from t extra (after t extra s leg.arrives) rest to))
        ∙ (ap (λ r. later k (onward r (λ s. verdict_from t extra (after t extra s leg.arrives) rest to))) right
        ∙ ap (λ xs. later k (verdict_from t extra here xs to)) (sym (drop_more plan k d inside))))

    -- it is wrong
    pub stopped : (d : Leg) (e : Refusal) → k < length plan → Err e ≡ judged t here (get_or plan k d) → Fails k e ≡ later k (verdict_from t extra here (drop k plan) to)
    stopped d e inside wrong =
        let leg = get_or plan k d in
        let rest = drop (k + 1) plan in
        ap (λ n. Fails n e) (omega arith)
        ∙ (ap (λ r. later k (onward r (λ s. verdict_from t extra (after t extra s leg.arrives) rest to))) wrong
        ∙ ap (λ xs. later k (verdict_from t extra here xs to)) (sym (drop_more plan k d inside)))

    -- all legs are right
    pub arrived : length plan ≤ k → here.quay ≡ to → Holds here.minute ≡ later k (verdict_from t extra here (drop k plan) to)
    arrived past there =
        ap (later k) (sym (cond-true (eqb here.quay to) (Holds here.minute) (Fails 0 EndsElsewhere) (eq-eqb _ _ there)))
        ∙ ap (λ xs. later k (verdict_from t extra here xs to)) (sym (drop_all k plan past))

    pub strayed : length plan ≡ k → (here.quay ≡ to → ⊥) → Fails (length plan) EndsElsewhere ≡ later k (verdict_from t extra here (drop k plan) to)
    strayed past off =
        ap (λ n. Fails n EndsElsewhere) (omega arith)
        ∙ (ap (later k) (sym (cond-false (eqb here.quay to) (Holds here.minute) (Fails 0 EndsElsewhere) (ne_eqb _ _ off)))
        ∙ ap (λ xs. later k (verdict_from t extra here xs to)) (sym (drop_all k plan (omega arith))))
