-- What hiding does to a timetable. Assumes nothing.
use Rattle.std.proofs.Common.{◌≡◌, ℕ, zero, suc, ◌+◌, Bool, true, false, cond, ◌||◌, ltb, List, [], ◌∷◌, length, get_or, Some, None, Ok, Err, Option, Result, sym, refl, ap, ◌∙◌, ap₂, add-zero, arith}
use Rattle.timetable.specs.declared.sailing.Sailing.{Sailing}
use Rattle.timetable.specs.declared.refusal.Refusal.{Refusal}
use Rattle.timetable.specs.declared.refusal.Refusal.TheVariants.{NoPlace}
use Rattle.timetable.specs.Timetables.{Timetable, Lawful, place_at}
use Rattle.timetable.specs.Answers.{place_of}
use Rattle.timetable.specs.Hiding.{blanked, blank_places, hide, HidingLaws}

length_blank : (f : ℕ → Sailing → Bool) (i : ℕ) (xs : List (Option Sailing)) → length (blank_places f i xs) ≡ length xs
length_blank f i [] = refl
length_blank f i (x ∷ xs) = ap suc (length_blank f (suc i) xs)

pub places_hidden : (f : ℕ → Sailing → Bool) (t : Timetable) → length (hide f t).places ≡ length t.places
places_hidden f t = length_blank f 0 t.places

blank_from : (f : ℕ → Sailing → Bool) (i : ℕ) (xs : List (Option Sailing)) (k : ℕ) →
    get_or (blank_places f i xs) k None ≡ blanked (f (i + k)) (get_or xs k None)
blank_from f i [] k = refl
blank_from f i (x ∷ xs) zero = ap (λ n. blanked (f n) x) (sym (add-zero i))
blank_from f i (x ∷ xs) (suc k) = blank_from f (suc i) xs k ∙ ap (λ n. blanked (f n) (get_or xs k None)) (omega arith)

pub place_blanked : (f : ℕ → Sailing → Bool) (t : Timetable) (p : ℕ) → place_at (hide f t) p ≡ blanked (f p) (place_at t p)
place_blanked f t p = blank_from f 0 t.places p ∙ ap (λ n. blanked (f n) (place_at t p)) (omega arith)

still_there : (f : Sailing → Bool) (x : Option Sailing) (s : Sailing) → blanked f x ≡ Some s → x ≡ Some s
still_there f None s e = e
still_there f (Some x) s e =
    (elim (f x) as (λ b. cond b None (Some x) ≡ Some s → Some x ≡ Some s) [ true ↦ λ q. cc | false ↦ λ q. q ]) e

-- a sailing that is not blank stands in the timetable below
pub place_below : (f : ℕ → Sailing → Bool) (t : Timetable) (p : ℕ) (s : Sailing) → place_at (hide f t) p ≡ Some s → place_at t p ≡ Some s
place_below f t p s e = still_there (f p) (place_at t p) s (sym (place_blanked f t p) ∙ e)

pub hide_lawful : (f : ℕ → Sailing → Bool) (t : Timetable) → Lawful t → Lawful (hide f t)
hide_lawful f t l = record {
  some_quay = l.some_quay;
  few_quays = l.few_quays;
  few_places = rw length_blank l.few_places;
  as_many_spans = l.as_many_spans;
  change_day = l.change_day;
  within = λ p s e. l.within p s (place_below f t p s e);
  span_order = l.span_order;
  span_end = λ q. rw length_blank (l.span_end q);
  spanned = λ p s e. l.spanned p s (place_below f t p s e);
}

-- what a layer answers of a place, from the answer below
abbrev pub blanked_answer : (Sailing → Bool) → Result (Option Sailing) Refusal → Result (Option Sailing) Refusal
blanked_answer f (Ok x) = Ok (blanked f x)
blanked_answer f (Err e) = Err e

place_hidden : (f : ℕ → Sailing → Bool) (t : Timetable) (p : ℕ) → place_of (hide f t) p ≡ blanked_answer (f p) (place_of t p)
place_hidden f t p =
    rw (length_blank, place_blanked f t p)
    (elim (ltb p (length t.places)) as (λ b. cond b (Ok (blanked (f p) (place_at t p))) (Err NoPlace) ≡ blanked_answer (f p) (cond b (Ok (place_at t p)) (Err NoPlace)))
    [ true ↦ refl | false ↦ refl ])

pub place_from : (f : ℕ → Sailing → Bool) (t : Timetable) (p : ℕ) (r : Result (Option Sailing) Refusal) →
    r ≡ place_of t p → blanked_answer (f p) r ≡ place_of (hide f t) p
place_from f t p r e = ap (blanked_answer (f p)) e ∙ sym (place_hidden f t p)

blanked_twice : (f g : Sailing → Bool) (x : Option Sailing) → blanked f (blanked g x) ≡ blanked (λ s. g s || f s) x
blanked_twice f g None = refl
blanked_twice f g (Some s) =
    elim (g s) as (λ b. blanked f (cond b None (Some s)) ≡ cond (b || f s) None (Some s)) [ true ↦ refl | false ↦ refl ]

blank_twice : (f g : ℕ → Sailing → Bool) (i : ℕ) (xs : List (Option Sailing)) →
    blank_places f i (blank_places g i xs) ≡ blank_places (λ p s. g p s || f p s) i xs
blank_twice f g i [] = refl
blank_twice f g i (x ∷ xs) = ap₂ ◌∷◌ (blanked_twice (f i) (g i) x) (blank_twice f g (suc i) xs)

pub hide_twice : (f g : ℕ → Sailing → Bool) (t : Timetable) → hide f (hide g t) ≡ hide (λ p s. g p s || f p s) t
hide_twice f g t = λ i. record { changes = t.changes; places = blank_twice f g 0 t.places i; spans = t.spans }

blank_same : (f g : ℕ → Sailing → Bool) → ((p : ℕ) (s : Sailing) → f p s ≡ g p s) → (i : ℕ) (xs : List (Option Sailing)) → blank_places f i xs ≡ blank_places g i xs
blank_same f g h i [] = refl
blank_same f g h i (None ∷ xs) = ap (λ (r : List (Option Sailing)). None ∷ r) (blank_same f g h (suc i) xs)
blank_same f g h i (Some s ∷ xs) = ap₂ (λ (b : Bool) (r : List (Option Sailing)). cond b None (Some s) ∷ r) (h i s) (blank_same f g h (suc i) xs)

-- tests that pick the same blank the same
pub hide_same : (f g : ℕ → Sailing → Bool) → ((p : ℕ) (s : Sailing) → f p s ≡ g p s) → (t : Timetable) → hide f t ≡ hide g t
hide_same f g h t = λ i. record { changes = t.changes; places = blank_same f g h 0 t.places i; spans = t.spans }

pub hiding_laws : HidingLaws
hiding_laws = record { blanks = place_blanked; keeps_law = hide_lawful; twice = hide_twice }
