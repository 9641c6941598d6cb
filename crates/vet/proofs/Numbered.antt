-- A refusal of a query or of a plan is known by its number. Assumes nothing.
use Rattle.std.proofs.Common.{◌≡◌, ℕ, cond, eqb, sym, refl, ap, ◌∙◌, subst, inl, inr, arith}
use Rattle.timetable.specs.declared.query.Query.{Query}
use Rattle.timetable.specs.declared.query.Leg.{Leg}
use Rattle.timetable.specs.declared.refusal.Refusal.{Refusal}
use Rattle.timetable.specs.declared.refusal.Refusal.TheVariants.{NoQuay, LateMinute, NoClass, NoSailing, WrongMinutes, WrongQuay, TooEarly}
use Rattle.timetable.specs.Refusals.{number_of}
use Rattle.timetable.specs.Timetables.{Timetable}
use Rattle.journey.specs.Journeys.{Stand}
use Rattle.timetable.specs.Queries.{Is, Lowest}
use Rattle.vet.specs.Faults.{QueryFault, LegFault}

abbrev named : ℕ → Refusal
named n =
    cond (eqb n 11) NoQuay (cond (eqb n 12) LateMinute (cond (eqb n 14) NoClass
    (cond (eqb n 41) NoSailing (cond (eqb n 42) WrongMinutes (cond (eqb n 43) WrongQuay TooEarly)))))

is_named : (f e : Refusal) (P : Type 0) → named (number_of f) ≡ f → Is f P e → named (number_of e) ≡ e
is_named f e P h i = subst (λ x. named (number_of x) ≡ x) (sym i.1) h

leg_named : (t : Timetable) (here : Stand) (leg : Leg) (e : Refusal) → LegFault t here leg e → named (number_of e) ≡ e
leg_named t here leg e (inl i) = is_named NoSailing e _ refl i
leg_named t here leg e (inr (inl i)) = is_named WrongMinutes e _ refl i
leg_named t here leg e (inr (inr (inl i))) = is_named WrongQuay e _ refl i
leg_named t here leg e (inr (inr (inr i))) = is_named TooEarly e _ refl i

query_named : (t : Timetable) (q : Query) (e : Refusal) → QueryFault t q e → named (number_of e) ≡ e
query_named t q e (inl i) = is_named NoQuay e _ refl i
query_named t q e (inr (inl i)) = is_named LateMinute e _ refl i
query_named t q e (inr (inr i)) = is_named NoClass e _ refl i

lowest_one : (W : Refusal → Type 0) → ((e : Refusal) → W e → named (number_of e) ≡ e) → (e f : Refusal) → Lowest W e → Lowest W f → e ≡ f
lowest_one W known e f a b =
    let same : number_of e ≡ number_of f = omega (arith, a.lowest f b.wrong, b.lowest e a.wrong) in
    sym (known e a.wrong) ∙ (ap named same ∙ known f b.wrong)

pub leg_one : (t : Timetable) (here : Stand) (leg : Leg) (e f : Refusal) → Lowest (LegFault t here leg) e → Lowest (LegFault t here leg) f → e ≡ f
leg_one t here leg = lowest_one (LegFault t here leg) (leg_named t here leg)

pub query_one : (t : Timetable) (q : Query) (e f : Refusal) → Lowest (QueryFault t q) e → Lowest (QueryFault t q) f → e ≡ f
query_one t q = lowest_one (QueryFault t q) (query_named t q)
