-- Each test decides what it is named for. Assumes nothing.
use Rattle.std.proofs.Common.{◌≡◌, ℕ, zero, suc, ◌<◌, Bool, true, false, not, ltb, List, [], ◌∷◌, length, get_or, Some, None, Decides, Option, sym, refl, ap, ◌∙◌, ⊎_elim, arith}
use Rattle.std.proofs.lemmas.List.{get_or_past}
use Rattle.std.proofs.lemmas.Bool.Decides.{Decides-below_or}
use Rattle.std.proofs.lemmas.Bool.{cases_lt, cases_Bool, eqb-true, eqb-false, leb-true, le-leb, eq-eqb, ne_eqb, and_parts, and_from, and_cases, and_left, and_right, or_from, or_left, or_right, le-ltb, ltb-false, true≢false, false≢true, not-true, cond-true, cond-false}
use Rattle.timetable.specs.declared.sailing.Sailing.{Sailing}
use Rattle.timetable.specs.Times.{continues}
use Rattle.timetable.specs.Timetables.{Timetable, place_at}
use Rattle.timetable.proofs.Laws.{continues_means}
use Rattle.thinning.specs.Margins.{passes, some_passes}
use Rattle.thinning.specs.Dominance.{Beats, beats, Outranks, outranks, Dominated, over_from, some_below, dominated}
use Rattle.thinning.specs.Thinning.{MarginLaws}

pub none_some : (s : Sailing) → None ≡ Some s → ⊥
none_some s e = let z : ◌≡◌ {A = ℕ} 0 1 = cc in omega arith

-- a place in which a sailing passes
pub passing : (f : Sailing → Bool) (x : Option Sailing) → passes f x ≡ true → (s : Sailing) × (x ≡ Some s) × (f s ≡ true)
passing f None h = absurd (false≢true h)
passing f (Some s) h = (s, refl, h)

passes_here : (f : Sailing → Bool) (x : Option Sailing) (s : Sailing) → x ≡ Some s → f s ≡ true → passes f x ≡ true
passes_here f x s e h = ap (passes f) e ∙ h

pub some_passes_lem : (f : Sailing → Bool) (xs : List (Option Sailing)) (k : ℕ) (s : Sailing) → get_or xs k None ≡ Some s → f s ≡ true → some_passes f xs ≡ true
some_passes_lem f [] k s e h = absurd (none_some s e)
some_passes_lem f (x ∷ xs) zero s e h = or_left _ _ (passes_here f x s e h)
some_passes_lem f (x ∷ xs) (suc k) s e h = or_right _ _ (some_passes_lem f xs k s e h)

none_passes : (f : Sailing → Bool) (xs : List (Option Sailing)) → ((k : ℕ) (s : Sailing) → get_or xs k None ≡ Some s → f s ≡ true → ⊥) → some_passes f xs ≡ false
none_passes f [] h = refl
none_passes f (x ∷ xs) h = or_from _ _
    (⊎_elim (λ (e : passes f x ≡ true). let r = passing f x e in absurd (h 0 r.0 r.1 r.2)) (λ e. e) (cases_Bool (passes f x)))
    (none_passes f xs (λ k s e. h (suc k) s e))

pub margin_laws : (t : Timetable) (s : Sailing) → MarginLaws t s
margin_laws t s = record {
  before_some = λ k r e h. cond-true _ _ _ (some_passes_lem (λ y. continues s y) t.places k r e ((continues_means s r).1 h));
  before_none = λ h. cond-false _ _ _ (none_passes (λ y. continues s y) t.places (λ k r e y. h k r e ((continues_means s r).0 y)));
  after_some = λ k r e h. cond-true _ _ _ (some_passes_lem (λ y. continues y s) t.places k r e ((continues_means r s).1 h));
  after_none = λ h. cond-false _ _ _ (none_passes (λ y. continues y s) t.places (λ k r e y. h k r e ((continues_means r s).0 y)));
}

pub beats_parts : (t : Timetable) (p : ℕ) (P : Sailing) (q : ℕ) (Q : Sailing) → beats t p P q Q ≡ true → Beats t p P q Q
beats_parts t p P q Q h =
    let a = and_parts _ _ h in
    let b = and_parts _ _ a.1 in
    let c = and_parts _ _ b.1 in
    record {
      apart = eqb-false p q (not-true _ a.0);
      from = eqb-true _ _ b.0;
      to = eqb-true _ _ c.0;
      early = leb-true _ _ c.1;
    }

pub beats_from : (t : Timetable) (p : ℕ) (P : Sailing) (q : ℕ) (Q : Sailing) → Beats t p P q Q → beats t p P q Q ≡ true
beats_from t p P q Q b =
    and_from _ _ (ap not (ne_eqb p q b.apart)) (and_from _ _ (eq-eqb _ _ b.from) (and_from _ _ (eq-eqb _ _ b.to) (le-leb _ _ b.early)))

pub outranks_parts : (t : Timetable) (p : ℕ) (P : Sailing) (q : ℕ) (Q : Sailing) → outranks t p P q Q ≡ true → Outranks t p P q Q
outranks_parts t p P q Q h =
    let a = and_parts _ _ h in
    let w = beats_parts t p P q Q a.0 in
    record {
      wins = w;
      tie = λ b. ⊎_elim (λ k. k) (λ k. absurd (⊎_elim
          (λ (e : ltb q p ≡ false). let n = w.apart in let f = ltb-false q p e in omega arith)
          (λ (e : beats t q Q p P ≡ false). true≢false (sym (beats_from t q Q p P b) ∙ e))
          (and_cases _ _ (not-true _ a.1)))) (cases_lt p q);
    }

pub outranks_from : (t : Timetable) (p : ℕ) (P : Sailing) (q : ℕ) (Q : Sailing) → Outranks t p P q Q → outranks t p P q Q ≡ true
outranks_from t p P q Q o =
    and_from _ _ (beats_from t p P q Q o.wins) (ap not (⊎_elim
    (λ (e : beats t q Q p P ≡ true). let k = o.tie (beats_parts t q Q p P e) in and_left _ _ (le-ltb q p (omega arith)))
    (λ (e : beats t q Q p P ≡ false). and_right _ _ e)
    (cases_Bool (beats t q Q p P))))

some_stands : (xs : List (Option Sailing)) (k : ℕ) (s : Sailing) → get_or xs k None ≡ Some s → k < length xs
some_stands xs k s e = ⊎_elim (λ h. h) (λ h. absurd (none_some s (sym (get_or_past xs k None h) ∙ e))) (cases_lt k (length xs))

pub place_stands : (t : Timetable) (p : ℕ) (s : Sailing) → place_at t p ≡ Some s → p < length t.places
place_stands t p s e = some_stands t.places p s e

pub dominance : (t : Timetable) (q : ℕ) (Q : Sailing) → Decides (dominated t q Q) (Dominated t q Q)
dominance t q Q = (
  λ h. let k = d.0 h in let r = passing (λ P. outranks t k.0 P q Q) (place_at t k.0) k.2 in
      record { place = k.0; sailing = r.0; stands = r.1; over = outranks_parts t k.0 r.0 q Q r.2 },
  λ m. d.1 (m.place, place_stands t m.place m.sailing m.stands, passes_here (λ P. outranks t m.place P q Q) _ _ m.stands (outranks_from t _ _ q Q m.over)),
)
  where
    f : ℕ → Bool
    f p = over_from t p (place_at t p) q Q

    d : Decides (dominated t q Q) ((k : ℕ) × (k < length t.places) × (f k ≡ true))
    d = Decides-below_or f (λ k. f k ≡ true) (some_below f) (λ k. ((λ e. e), λ e. e)) refl (λ _. refl) (length t.places)
