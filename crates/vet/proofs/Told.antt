-- The verdict on a plan is right, and no other is. Assumes nothing.
use Rattle.std.proofs.Common.{◌≡◌, ℕ, eqb, List, [], ◌∷◌, ◌++◌, length, Ok, Err, Result, sym, refl, ap, ◌∙◌, subst, inl, inr, arith}
use Rattle.std.proofs.lemmas.Bool.{cond_both, cond-true, cond-false, eqb-true, eqb-false, eq-eqb, ne_eqb}
use Rattle.timetable.specs.declared.sailing.Sailing.{Sailing}
use Rattle.timetable.specs.declared.query.Query.{Query}
use Rattle.timetable.specs.declared.query.Leg.{Leg}
use Rattle.timetable.specs.declared.refusal.Refusal.{Refusal}
use Rattle.timetable.specs.declared.refusal.Refusal.TheVariants.{EndsElsewhere}
use Rattle.timetable.specs.Timetables.{Timetable}
use Rattle.timetable.specs.Classes.{class_minutes}
use Rattle.journey.specs.Journeys.{Stand, start, after, Boards, Leads, Journey}
use Rattle.vet.specs.declared.verdict.Verdict.{Verdict}
use Rattle.vet.specs.declared.verdict.Verdict.TheVariants.{Holds, Fails}
use Rattle.timetable.specs.Queries.{Lowest}
use Rattle.vet.specs.Faults.{LegFault}
use Rattle.vet.specs.Vetting.{judged, later, onward, verdict_from, verdict_on}
use Rattle.vet.specs.Verdicts.{Reaches, FitsFrom}
use Rattle.vet.proofs.Judged.{Means, judged_means, right-judged, wrong_judged}

-- a leg more in front
later_fits : (t : Timetable) (extra : ℕ) (here : Stand) (leg : Leg) (legs : List Leg) (to : ℕ) (s : Sailing) → Boards t here leg s
    → (v : Verdict) → FitsFrom t extra (after t extra s leg.arrives) legs to v → FitsFrom t extra here (leg ∷ legs) to (later 1 v)
later_fits t extra here leg legs to s b (Holds a) h = (s, b, h)
later_fits t extra here leg legs to s b (Fails k e) (inl w) = inl (record {
  before = leg ∷ w.before;
  leg = w.leg;
  rest = w.rest;
  parts = ap (λ xs. leg ∷ xs) w.parts;
  count = omega (arith, w.count);
  there = w.there;
  reaches = (s, b, w.reaches);
  fault = w.fault;
})
later_fits t extra here leg legs to s b (Fails k e) (inr w) = inr (record {
  there = w.there;
  reaches = (s, b, w.reaches);
  elsewhere = w.elsewhere;
  count = omega (arith, w.count);
  refusal = w.refusal;
})

-- the verdict is right
pub verdict_fits : (t : Timetable) (extra : ℕ) (here : Stand) (plan : List Leg) (to : ℕ) → FitsFrom t extra here plan to (verdict_from t extra here plan to)
verdict_fits t extra here [] to =
    cond_both (eqb here.quay to) _ _ (FitsFrom t extra here [] to)
    (λ e. (eqb-true _ _ e, refl))
    (λ e. inr (record { there = here; reaches = refl; elsewhere = eqb-false _ _ e; count = refl; refusal = refl }))
verdict_fits t extra here (leg ∷ legs) to = go (λ s. verdict_fits t extra (after t extra s leg.arrives) legs to) (judged t here leg) (judged_means t here leg)
  where
    go : ((s : Sailing) → FitsFrom t extra (after t extra s leg.arrives) legs to (verdict_from t extra (after t extra s leg.arrives) legs to))
        → (r : Result Sailing Refusal) → Means t here leg r → FitsFrom t extra here (leg ∷ legs) to (onward r (λ s. verdict_from t extra (after t extra s leg.arrives) legs to))
    go rest (Ok s) b = later_fits t extra here leg legs to s b _ (rest s)
    go rest (Err e) w = inl (record { before = []; leg = leg; rest = legs; parts = refl; count = refl; there = here; reaches = refl; fault = w })

-- a journey is told as one
leads_told : (t : Timetable) (extra : ℕ) (here : Stand) (plan : List Leg) (to a : ℕ) → Leads t extra here plan to a → verdict_from t extra here plan to ≡ Holds a
leads_told t extra here [] to a h = cond-true _ _ _ (eq-eqb _ _ h.0) ∙ ap Holds h.1
leads_told t extra here (leg ∷ legs) to a (s, b, h) =
    ap (λ r. onward r (λ s. verdict_from t extra (after t extra s leg.arrives) legs to)) (right-judged t here leg s b)
    ∙ ap (later 1) (leads_told t extra (after t extra s leg.arrives) legs to a h)

-- so is the first wrong leg
wrong_told : (t : Timetable) (extra : ℕ) (here there : Stand) (plan before : List Leg) (leg : Leg) (rest : List Leg) (to : ℕ) (e : Refusal)
    → plan ≡ before ++ (leg ∷ rest) → Reaches t extra here before there → Lowest (LegFault t there leg) e → verdict_from t extra here plan to ≡ Fails (length before) e
wrong_told t extra here there plan [] leg rest to e parts same w =
    ap (λ xs. verdict_from t extra here xs to) parts
    ∙ ap (λ r. onward r (λ s. verdict_from t extra (after t extra s leg.arrives) rest to)) (wrong_judged t here leg e (subst (λ x. Lowest (LegFault t x leg) e) (sym same) w))
wrong_told t extra here there plan (x ∷ xs) leg rest to e parts (s, b, reaches) w =
    ap (λ ys. verdict_from t extra here ys to) parts
    ∙ (ap (λ r. onward r (λ s. verdict_from t extra (after t extra s x.arrives) (xs ++ (leg ∷ rest)) to)) (right-judged t here x s b)
    ∙ (ap (later 1) (wrong_told t extra (after t extra s x.arrives) there (xs ++ (leg ∷ rest)) xs leg rest to e refl reaches w)
    ∙ ap (λ k. Fails k e) (omega arith)))

-- and a plan that ends elsewhere
strays_told : (t : Timetable) (extra : ℕ) (here there : Stand) (plan : List Leg) (to : ℕ) → Reaches t extra here plan there → (there.quay ≡ to → ⊥) → verdict_from t extra here plan to ≡ Fails (length plan) EndsElsewhere
strays_told t extra here there [] to same off = cond-false _ _ _ (ne_eqb _ _ (λ h. off (sym (ap (λ (x : Stand). x.quay) same) ∙ h)))
strays_told t extra here there (leg ∷ legs) to (s, b, reaches) off =
    ap (λ r. onward r (λ s. verdict_from t extra (after t extra s leg.arrives) legs to)) (right-judged t here leg s b)
    ∙ (ap (later 1) (strays_told t extra (after t extra s leg.arrives) there legs to reaches off)
    ∙ ap (λ k. Fails k EndsElsewhere) (omega arith))

-- what may be said of a plan is the verdict
pub fits_verdict : (t : Timetable) (extra : ℕ) (here : Stand) (plan : List Leg) (to : ℕ) (v : Verdict) → FitsFrom t extra here plan to v → verdict_from t extra here plan to ≡ v
fits_verdict t extra here plan to (Holds a) h = leads_told t extra here plan to a h
fits_verdict t extra here plan to (Fails k e) (inl w) =
    wrong_told t extra here w.there plan w.before w.leg w.rest to e w.parts w.reaches w.fault ∙ ap (λ n. Fails n e) w.count
fits_verdict t extra here plan to (Fails k e) (inr w) =
    let count = w.count in let refusal = w.refusal in strays_told t extra here w.there plan to w.reaches w.elsewhere ∙ (ap (λ n. Fails n EndsElsewhere) count ∙ ap (Fails k) (sym refusal))

-- where the verdict says yes, the plan is a journey that arrives then
pub vetted_yes : (t : Timetable) (q : Query) (plan : List Leg) (a : ℕ) → verdict_on t q plan ≡ Holds a → Journey t q plan a
vetted_yes t q plan a h =
    let extra = class_minutes q.class in
    let here = start q.from q.minute in
    subst (FitsFrom t extra here plan q.to) h (verdict_fits t extra here plan q.to)

-- and it says yes of every journey
pub yes_vetted : (t : Timetable) (q : Query) (plan : List Leg) (a : ℕ) → Journey t q plan a → verdict_on t q plan ≡ Holds a
yes_vetted t q plan a h = leads_told t (class_minutes q.class) (start q.from q.minute) plan q.to a h
