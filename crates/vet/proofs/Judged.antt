-- What the judgement of one leg tells. Assumes nothing.
use Rattle.std.proofs.Common.{◌≡◌, ℕ, ◌+◌, ◌≤◌, eqb, leb, Some, None, Ok, Err, Option, Result, refl, ap, ◌∙◌, subst, inl, inr, arith, lit≤}
use Rattle.std.proofs.lemmas.Bool.{cond_both, cond-true, eqb-true, eqb-false, leb-true, leb-false, eq-eqb, le-leb}
use Rattle.timetable.specs.declared.sailing.Sailing.{Sailing}
use Rattle.timetable.specs.declared.query.Leg.{Leg}
use Rattle.timetable.specs.declared.refusal.Refusal.{Refusal}
use Rattle.timetable.specs.declared.refusal.Refusal.TheVariants.{NoSailing, WrongMinutes, WrongQuay, TooEarly}
use Rattle.timetable.specs.Refusals.{number_of}
use Rattle.timetable.specs.Timetables.{Timetable, place_at}
use Rattle.timetable.specs.Times.{length_of, next, Leaves}
use Rattle.timetable.proofs.Laws.{next-late, next_leaves, next_least}
use Rattle.journey.specs.Journeys.{Stand, Boards}
use Rattle.timetable.specs.Queries.{Lowest}
use Rattle.timetable.proofs.Queried.{at_least}
use Rattle.vet.specs.Faults.{Sails, MinutesOff, QuayOff, LeavesEarly, LegFault}
use Rattle.vet.specs.Vetting.{boarded, judged}
use Rattle.vet.proofs.Numbered.{leg_one}

-- a sailing leaves at a minute exactly where that is its own next departure
pub leaves_at : (s : Sailing) (m : ℕ) → next s m ≡ m → Leaves s m
leaves_at s m e = subst (Leaves s) e (next_leaves s m)

pub next_at : (s : Sailing) (m : ℕ) → Leaves s m → next s m ≡ m
next_at s m l = omega (arith, next-late s m, next_least s m m l (omega arith))

module _ (t : Timetable) (here : Stand) (leg : Leg) where
  -- the place holds one sailing only
  the_sailing : (P : Sailing → Type 0) (s : Sailing) → place_at t leg.place ≡ Some s → Sails t leg P → P s
  the_sailing P s e (r, at, p) = let same : r ≡ s = cc in subst P same p

  some_none : {X : Type 0} (s : Sailing) → place_at t leg.place ≡ Some s → place_at t leg.place ≡ None → X
  some_none s e n = let z : ◌≡◌ {A = ℕ} 0 1 = cc in absurd (omega arith)

  -- a leg that can be taken has no fault
  pub boards_clear : (s : Sailing) (e : Refusal) → Boards t here leg s → LegFault t here leg e → ⊥
  boards_clear s e b (inl (none, _)) = some_none s b.sailing none
  boards_clear s e b (inr (inl (off, _))) = clear (the_sailing (MinutesOff leg) s b.sailing off)
    where
      clear : MinutesOff leg s → ⊥
      clear (inl n) = n b.leaves
      clear (inr n) = n b.arrives
  boards_clear s e b (inr (inr (inl (off, _)))) = the_sailing (QuayOff here) s b.sailing off b.quay
  boards_clear s e b (inr (inr (inr (early, _)))) = let h = the_sailing (LeavesEarly here leg) s b.sailing early in omega (arith, h, b.ready)

  -- what a judgement says
  abbrev pub Means : Result Sailing Refusal → Type 0
  Means (Ok s) = Boards t here leg s
  Means (Err e) = Lowest (LegFault t here leg) e

  no_sailing : place_at t leg.place ≡ None → Lowest (LegFault t here leg) NoSailing
  no_sailing none = record { wrong = inl (none, refl); lowest = low }
    where
      low : (f : Refusal) → LegFault t here leg f → 41 ≤ number_of f
      low f (inl i) = at_least 41 NoSailing f _ (lit≤ tt) i
      low f (inr (inl i)) = at_least 41 WrongMinutes f _ (lit≤ tt) i
      low f (inr (inr (inl i))) = at_least 41 WrongQuay f _ (lit≤ tt) i
      low f (inr (inr (inr i))) = at_least 41 TooEarly f _ (lit≤ tt) i

  module _ (s : Sailing) (at : place_at t leg.place ≡ Some s) where
    minutes : MinutesOff leg s → Lowest (LegFault t here leg) WrongMinutes
    minutes off = record { wrong = inr (inl ((s, at, off), refl)); lowest = low }
      where
        low : (f : Refusal) → LegFault t here leg f → 42 ≤ number_of f
        low f (inl (none, _)) = some_none s at none
        low f (inr (inl i)) = at_least 42 WrongMinutes f _ (lit≤ tt) i
        low f (inr (inr (inl i))) = at_least 42 WrongQuay f _ (lit≤ tt) i
        low f (inr (inr (inr i))) = at_least 42 TooEarly f _ (lit≤ tt) i

    module _ (leaves : Leaves s leg.leaves) (arrives : leg.arrives ≡ leg.leaves + length_of s) where
      not_off : MinutesOff leg s → ⊥
      not_off (inl n) = n leaves
      not_off (inr n) = n arrives

      quay_off : QuayOff here s → Lowest (LegFault t here leg) WrongQuay
      quay_off off = record { wrong = inr (inr (inl ((s, at, off), refl))); lowest = low }
        where
          low : (f : Refusal) → LegFault t here leg f → 43 ≤ number_of f
          low f (inl (none, _)) = some_none s at none
          low f (inr (inl (m, _))) = absurd (not_off (the_sailing (MinutesOff leg) s at m))
          low f (inr (inr (inl i))) = at_least 43 WrongQuay f _ (lit≤ tt) i
          low f (inr (inr (inr i))) = at_least 43 TooEarly f _ (lit≤ tt) i

      early : s.from ≡ here.quay → LeavesEarly here leg s → Lowest (LegFault t here leg) TooEarly
      early quay soon = record { wrong = inr (inr (inr ((s, at, soon), refl))); lowest = low }
        where
          low : (f : Refusal) → LegFault t here leg f → 44 ≤ number_of f
          low f (inl (none, _)) = some_none s at none
          low f (inr (inl (m, _))) = absurd (not_off (the_sailing (MinutesOff leg) s at m))
          low f (inr (inr (inl (q, _)))) = absurd (the_sailing (QuayOff here) s at q quay)
          low f (inr (inr (inr i))) = at_least 44 TooEarly f _ (lit≤ tt) i

    some_means : Means (boarded here leg (Some s))
    some_means =
        cond_both (eqb (next s leg.leaves) leg.leaves) _ _ Means
        (λ a. cond_both (eqb leg.arrives (leg.leaves + length_of s)) _ _ Means
        (λ b. let go = leaves_at s leg.leaves (eqb-true _ _ a) in let come = eqb-true leg.arrives (leg.leaves + length_of s) b in
        cond_both (eqb s.from here.quay) _ _ Means
        (λ q. cond_both (leb (here.due s) leg.leaves) _ _ Means
        (λ d. record { sailing = at; quay = eqb-true _ _ q; leaves = go; ready = leb-true _ _ d; arrives = come })
        (λ d. early go come (eqb-true _ _ q) (leb-false _ _ d)))
        (λ q. quay_off go come (eqb-false _ _ q)))
        (λ b. minutes (inr (eqb-false _ _ b))))
        (λ a. minutes (inl (λ l. eqb-false _ _ a (next_at s leg.leaves l))))

  means : (o : Option Sailing) → place_at t leg.place ≡ o → Means (boarded here leg o)
  means None e = no_sailing e
  means (Some s) e = some_means s e

  -- the judgement of a leg is right
  pub judged_means : Means (judged t here leg)
  judged_means = means (place_at t leg.place) refl

  pub right-judged : (s : Sailing) → Boards t here leg s → judged t here leg ≡ Ok s
  right-judged s b =
      ap (boarded here leg) b.sailing
      ∙ (cond-true _ _ _ (eq-eqb _ _ (next_at s leg.leaves b.leaves))
      ∙ (cond-true _ _ _ (eq-eqb _ _ b.arrives)
      ∙ (cond-true _ _ _ (eq-eqb _ _ b.quay)
      ∙ cond-true _ _ _ (le-leb _ _ b.ready))))

  pub wrong_judged : (e : Refusal) → Lowest (LegFault t here leg) e → judged t here leg ≡ Err e
  wrong_judged e w = go (judged t here leg) judged_means
    where
      go : (r : Result Sailing Refusal) → Means r → r ≡ Err e
      go (Ok s) b = absurd (boards_clear s e b w.wrong)
      go (Err f) l = ap Err (leg_one t here leg f e l w)
