-- Every dominated sailing is beaten by one that is not. Assumes nothing.
use Rattle.std.proofs.Common.{◌≡◌, ℕ, zero, suc, ◌<◌, Bool, true, false, ◌⊎◌, length, Some, None, Option, sym, refl, ap, ◌∙◌, subst, subst₂, inl, inr, ⊎_elim, arith}
use Rattle.std.proofs.lemmas.Bool.{true≢false, false≢true, cases_Bool, cond-false, or_from}
use Rattle.timetable.specs.declared.sailing.Sailing.{Sailing}
use Rattle.timetable.specs.Timetables.{Timetable, place_at}
use Rattle.timetable.specs.Hiding.{hide, blanked}
use Rattle.timetable.proofs.HidingLemmas.{place_blanked}
use Rattle.thinning.specs.Margins.{passes}
use Rattle.thinning.specs.Dominance.{Beats, outranks, over_from, some_below, dominated}
use Rattle.thinning.specs.Thinning.{Picks}
use Rattle.thinning.proofs.Tested.{outranks_parts, outranks_from, dominance}
use Rattle.thinning.proofs.Orders.{outranks_trans, top}

-- what stands at one place outranks what stands at another
abbrev pair_over : Timetable → ℕ → Option Sailing → ℕ → Option Sailing → Bool
pair_over t p a q b = passes (λ Q. over_from t p a q Q) b

same_some : (x : Option Sailing) (P R : Sailing) → x ≡ Some P → x ≡ Some R → P ≡ R
same_some x P R a b = cc

pair_trans : (t : Timetable) (p q r : ℕ) (a b c : Option Sailing) → place_at t p ≡ a → place_at t q ≡ b → place_at t r ≡ c →
    pair_over t p a q b ≡ true → pair_over t q b r c ≡ true → pair_over t p a r c ≡ true
pair_trans t p q r a b None ea eb ec x y = y
pair_trans t p q r a None (Some R) ea eb ec x y = absurd (false≢true x)
pair_trans t p q r None (Some Q) (Some R) ea eb ec x y = x
pair_trans t p q r (Some P) (Some Q) (Some R) ea eb ec x y =
    outranks_from t p P r R (outranks_trans t p P q Q r R
    (λ e. same_some (place_at t p) P R ea (ap (λ n. place_at t n) e ∙ ec))
    (outranks_parts t p P q Q x) (outranks_parts t q Q r R y))

pair_irrefl : (t : Timetable) (p : ℕ) (a : Option Sailing) → pair_over t p a p a ≡ false
pair_irrefl t p None = refl
pair_irrefl t p (Some P) =
    ⊎_elim (λ (e : outranks t p P p P ≡ true). absurd ((outranks_parts t p P p P e).wins.apart refl)) (λ (e : outranks t p P p P ≡ false). e) (cases_Bool (outranks t p P p P))

pub none_below : (f : ℕ → Bool) (n : ℕ) → ((p : ℕ) → p < n → f p ≡ false) → some_below f n ≡ false
none_below f zero h = refl
none_below f (suc n) h = or_from (f n) (some_below f n) (h n (omega arith)) (none_below f n (λ p k. h p (omega arith)))

undominated : (t : Timetable) (q : ℕ) (Q : Sailing) → place_at t q ≡ Some Q → ((p : ℕ) → p < length t.places → pair_over t p (place_at t p) q (place_at t q) ≡ false) → dominated t q Q ≡ false
undominated t q Q e h =
    none_below (λ p. over_from t p (place_at t p) q Q) (length t.places)
    (λ p k. subst (λ (b : Option Sailing). pair_over t p (place_at t p) q b ≡ false) e (h p k))

-- a sailing that is not dominated and beats Q
pub record Better (t : Timetable) (q : ℕ) (Q : Sailing) : Type 0 where
  pub place : ℕ
  pub sailing : Sailing
  pub stands : place_at t place ≡ Some sailing
  pub free : dominated t place sailing ≡ false
  pub wins : Beats t place sailing q Q

pub descent : (t : Timetable) (q : ℕ) (Q : Sailing) → place_at t q ≡ Some Q → (dominated t q Q ≡ false) ⊎ Better t q Q
descent t q Q e = ⊎_elim (λ none. inl (undominated t q Q e none)) (λ some. inr (found some (place_at t some.0) refl)) (top D (λ a b c. pair_trans t a b c _ _ _ refl refl refl) (λ a. pair_irrefl t a (place_at t a)) (length t.places) q)
  where
    D : ℕ → ℕ → Bool
    D a b = pair_over t a (place_at t a) b (place_at t b)

    found : (some : (p : ℕ) × (p < length t.places) × (D p q ≡ true) × ((y : ℕ) → y < length t.places → D y p ≡ false)) (a : Option Sailing) → place_at t some.0 ≡ a → Better t q Q
    found some None f = absurd (false≢true (subst₂ (λ (a b : Option Sailing). pair_over t some.0 a q b ≡ true) f e some.2))
    found some (Some P) f = record {
      place = some.0;
      sailing = P;
      stands = f;
      free = undominated t some.0 P f some.3;
      wins = (outranks_parts t some.0 P q Q (subst₂ (λ (a b : Option Sailing). pair_over t some.0 a q b ≡ true) f e some.2)).wins;
    }

-- what is not dominated stands where dominated sailings only are blanked
pub stays : (t : Timetable) (f : ℕ → Sailing → Bool) → Picks f t → (p : ℕ) (P : Sailing) → place_at t p ≡ Some P → dominated t p P ≡ false → place_at (hide f t) p ≡ Some P
stays t f sub p P e free =
    place_blanked f t p ∙ ap (blanked (f p)) e ∙ cond-false (f p P) None (Some P)
    (⊎_elim (λ (h : f p P ≡ true). absurd (true≢false (sym ((dominance t p P).1 (sub p P e h)) ∙ free))) (λ (h : f p P ≡ false). h) (cases_Bool (f p P)))
