-- The answer tells what a line says. Assumes nothing.
use Rattle.std.proofs.Common.{◌≡◌, ℕ, ◌<◌, Bool, true, false, cond, ◌||◌, eqb, ◌⊎◌, List, [], ◌∷◌, length, get_or, take, Some, None, Ok, Err, codes, Option, Result, sym, ap, ◌∙◌, inl, inr, ⊎_elim, arith}
use Rattle.std.specs.Result.{result_map_both}
use Rattle.std.proofs.lemmas.Slice.Eq.{bytes_eq-Decides}
use Rattle.std.proofs.lemmas.List.{get_or-take, nil_from_length}
use Rattle.std.proofs.lemmas.Bool.{cases_Bool, or_cases, or_from, or_left, or_right, eqb-true, eq-eqb, ne_eqb, cond-true, cond-false}
use Rattle.timetable.specs.declared.sailing.Sailing.{Sailing}
use Rattle.image.specs.declared.quay.Quay.{Quay}
use Rattle.booktext.specs.declared.entry.Entry.{Entry}
use Rattle.booktext.specs.declared.entry.Entry.TheVariants.{Quay as OfQuay, Sailing as OfSailing}
use Rattle.booktext.specs.declared.entry.LineFault.{LineFault}
use Rattle.booktext.specs.declared.entry.LineFault.TheVariants.{NoWord}
use Rattle.booktext.specs.Quays.{quay_of, QuayLine}
use Rattle.booktext.specs.Sailings.{sailing_of, SailingLine}
use Rattle.booktext.specs.Lines.{begins, worded, line_of, Silent, Says}
use Rattle.booktext.proofs.Quaylines.{quay_stands, quay_here}
use Rattle.booktext.proofs.Sailinglines.{sailing_stands, sailing_here}

-- the first byte of a line that begins with a word
first_byte : (line word : List ℕ) (n : ℕ) → 0 < n → take n line ≡ word → get_or line 0 0 ≡ get_or word 0 0
first_byte line word n h e = sym (get_or-take n line 0 0 h) ∙ ap (λ l. get_or l 0 0) e

-- the test of a line that says nothing
abbrev hushed : List ℕ → Bool
hushed line = eqb (length line) 0 || eqb (get_or line 0 0) 35

hushed_means : (line : List ℕ) → hushed line ≡ true → Silent line
hushed_means line h =
    ⊎_elim (λ e. inl (nil_from_length line (eqb-true (length line) 0 e))) (λ e. inr (eqb-true (get_or line 0 0) 35 e)) (or_cases (eqb (length line) 0) (eqb (get_or line 0 0) 35) h)

silent_hushed : (line : List ℕ) → Silent line → hushed line ≡ true
silent_hushed line h =
    ⊎_elim (λ e. or_left (eqb (length line) 0) (eqb (get_or line 0 0) 35) (eq-eqb (length line) 0 (ap length e)))
    (λ e. or_right (eqb (length line) 0) (eqb (get_or line 0 0) 35) (eq-eqb (get_or line 0 0) 35 e)) h

-- a line whose first byte is there and no #
spoken : (line : List ℕ) (b : ℕ) → get_or line 0 0 ≡ b → 35 < b → hushed line ≡ false
spoken [] b e l = absurd (omega arith)
spoken (x ∷ xs) b e l = or_from (eqb (length (x ∷ xs)) 0) (eqb x 35) (ne_eqb (length (x ∷ xs)) 0 (λ z. omega arith)) (ne_eqb x 35 (λ z. omega arith))

begins_from : (word line : List ℕ) → take (length word) line ≡ word → begins word line ≡ true
begins_from word line e = (bytes_eq-Decides word (take (length word) line)).1 (sym e)

from_begins : (word line : List ℕ) → begins word line ≡ true → take (length word) line ≡ word
from_begins word line t = sym ((bytes_eq-Decides word (take (length word) line)).0 t)

not_begins : (word line : List ℕ) → (take (length word) line ≡ word → ⊥) → begins word line ≡ false
not_begins word line f = ⊎_elim (λ t. absurd (f (from_begins word line t))) (λ t. t) (cases_Bool (begins word line))

abbrev quay-answer : List ℕ → Result Entry LineFault
quay-answer line = result_map_both OfQuay (λ e. e) (quay_of line)

abbrev sailing-answer : List ℕ → Result Entry LineFault
sailing-answer line = result_map_both OfSailing (λ e. e) (sailing_of line)

abbrev no_quay : List ℕ → Result Entry LineFault
no_quay line = cond (begins (codes "sailing") line) (sailing-answer line) (Err NoWord)

-- an answer of a line that says something
abbrev told : Result Entry LineFault → Result (Option Entry) LineFault
told r = result_map_both Some (λ e. e) r

apart : (line : List ℕ) → take 4 line ≡ codes "quay" → take 7 line ≡ codes "sailing" → ⊥
apart line v w = omega (arith, first_byte line (codes "quay") 4 (omega arith) v, first_byte line (codes "sailing") 7 (omega arith) w)

quay_worded : (line : List ℕ) → take 4 line ≡ codes "quay" → worded line ≡ quay-answer line
quay_worded line w = cond-true (begins (codes "quay") line) (quay-answer line) (no_quay line) (begins_from (codes "quay") line w)

sailing_worded : (line : List ℕ) → take 7 line ≡ codes "sailing" → worded line ≡ sailing-answer line
sailing_worded line w =
    cond-false (begins (codes "quay") line) (quay-answer line) (no_quay line) (not_begins (codes "quay") line (λ v. apart line v w))
    ∙ cond-true (begins (codes "sailing") line) (sailing-answer line) (Err NoWord) (begins_from (codes "sailing") line w)

-- the three ways that a line with words is read
abbrev Wording : List ℕ → Type 0
Wording line =
    ((take 4 line ≡ codes "quay") × (worded line ≡ quay-answer line)) ⊎ (((take 7 line ≡ codes "sailing") × (worded line ≡ sailing-answer line)) ⊎ (worded line ≡ Err NoWord))

wording : (line : List ℕ) → Wording line
wording line = ⊎_elim (λ q. let w = from_begins (codes "quay") line q in inl (w, quay_worded line w)) (λ q. inr (sails q)) (cases_Bool (begins (codes "quay") line))
  where
    sails : begins (codes "quay") line ≡ false → ((take 7 line ≡ codes "sailing") × (worded line ≡ sailing-answer line)) ⊎ (worded line ≡ Err NoWord)
    sails q =
        ⊎_elim (λ s. let w = from_begins (codes "sailing") line s in inl (w, sailing_worded line w))
        (λ s. inr (cond-false (begins (codes "quay") line) (quay-answer line) (no_quay line) q ∙ cond-false (begins (codes "sailing") line) (sailing-answer line) (Err NoWord) s))
        (cases_Bool (begins (codes "sailing") line))

-- a line says nothing, or it is read by its words
way : (line : List ℕ) → ((hushed line ≡ true) × (line_of line ≡ Ok None)) ⊎ (line_of line ≡ told (worded line))
way line =
    ⊎_elim (λ t. inl (t, cond-true (hushed line) (Ok None) (told (worded line)) t)) (λ t. inr (cond-false (hushed line) (Ok None) (told (worded line)) t)) (cases_Bool (hushed line))

spoken_read : (line : List ℕ) → hushed line ≡ false → line_of line ≡ told (worded line)
spoken_read line h = cond-false (hushed line) (Ok None) (told (worded line)) h

-- an answer that something is said tells what was read, and an answer that nothing is said is none of these
told_is : (r : Result Entry LineFault) (x : Entry) → told r ≡ Ok (Some x) → r ≡ Ok x
told_is (Ok y) x h = cc
told_is (Err e) x h = let z : ◌≡◌ {A = ℕ} 0 1 = cc in absurd (omega arith)

told_some : (r : Result Entry LineFault) → told r ≡ Ok None → ⊥
told_some (Ok y) h = let z : ◌≡◌ {A = ℕ} 0 1 = cc in omega arith
told_some (Err e) h = let z : ◌≡◌ {A = ℕ} 0 1 = cc in omega arith

-- an answer about quays is about the quay that was read, and about nothing else
quay_of_lem : (r : Result Quay LineFault) (q : Quay) → result_map_both OfQuay (λ e. e) r ≡ Ok (OfQuay q) → r ≡ Ok q
quay_of_lem (Ok x) q h = cc
quay_of_lem (Err e) q h = let z : ◌≡◌ {A = ℕ} 0 1 = cc in absurd (omega arith)

quay_not_sailing : (r : Result Quay LineFault) (s : Sailing) → result_map_both OfQuay (λ e. e) r ≡ Ok (OfSailing s) → ⊥
quay_not_sailing (Ok x) s h = let z : ◌≡◌ {A = ℕ} 0 1 = cc in omega arith
quay_not_sailing (Err e) s h = let z : ◌≡◌ {A = ℕ} 0 1 = cc in omega arith

sailing_of_lem : (r : Result Sailing LineFault) (s : Sailing) → result_map_both OfSailing (λ e. e) r ≡ Ok (OfSailing s) → r ≡ Ok s
sailing_of_lem (Ok x) s h = cc
sailing_of_lem (Err e) s h = let z : ◌≡◌ {A = ℕ} 0 1 = cc in absurd (omega arith)

sailing_not_quay : (r : Result Sailing LineFault) (q : Quay) → result_map_both OfSailing (λ e. e) r ≡ Ok (OfQuay q) → ⊥
sailing_not_quay (Ok x) q h = let z : ◌≡◌ {A = ℕ} 0 1 = cc in omega arith
sailing_not_quay (Err e) q h = let z : ◌≡◌ {A = ℕ} 0 1 = cc in omega arith

no_word : (x : Entry) → ◌≡◌ {A = Result Entry LineFault} (Err NoWord) (Ok x) → ⊥
no_word x h = let z : ◌≡◌ {A = ℕ} 0 1 = cc in omega arith

-- what is said stands in the words
said : (line : List ℕ) (x : Entry) → line_of line ≡ Ok (Some x) → worded line ≡ Ok x
said line x h = ⊎_elim (λ w. absurd (other (sym w.1 ∙ h))) (λ w. told_is (worded line) x (sym w ∙ h)) (way line)
  where
    other : ◌≡◌ {A = Result (Option Entry) LineFault} (Ok None) (Ok (Some x)) → ⊥
    other e = let z : ◌≡◌ {A = ℕ} 0 1 = cc in omega arith

silent_told : (line : List ℕ) → line_of line ≡ Ok None → Silent line
silent_told line h = ⊎_elim (λ w. hushed_means line w.0) (λ w. absurd (told_some (worded line) (sym w ∙ h))) (way line)

quay_told : (line : List ℕ) (q : Quay) → line_of line ≡ Ok (Some (OfQuay q)) → QuayLine line q
quay_told line q h = go (wording line)
  where
    is : worded line ≡ Ok (OfQuay q)
    is = said line (OfQuay q) h

    go : Wording line → QuayLine line q
    go (inl w) = quay_stands line q w.0 (quay_of_lem (quay_of line) q (sym w.1 ∙ is))
    go (inr (inl w)) = absurd (sailing_not_quay (sailing_of line) q (sym w.1 ∙ is))
    go (inr (inr w)) = absurd (no_word (OfQuay q) (sym w ∙ is))

sailing_told : (line : List ℕ) (s : Sailing) → line_of line ≡ Ok (Some (OfSailing s)) → SailingLine line s
sailing_told line s h = go (wording line)
  where
    is : worded line ≡ Ok (OfSailing s)
    is = said line (OfSailing s) h

    go : Wording line → SailingLine line s
    go (inl w) = absurd (quay_not_sailing (quay_of line) s (sym w.1 ∙ is))
    go (inr (inl w)) = sailing_stands line s w.0 (sailing_of_lem (sailing_of line) s (sym w.1 ∙ is))
    go (inr (inr w)) = absurd (no_word (OfSailing s) (sym w ∙ is))

pub says : (line : List ℕ) → Says line (line_of line)
says line = record {
  silent = (silent_told line, λ h. cond-true (hushed line) (Ok None) (told (worded line)) (silent_hushed line h));
  quay = λ q. (
    quay_told line q,
    λ h.
        spoken_read line (spoken line 113 (first_byte line (codes "quay") 4 (omega arith) h.word) (omega arith)) ∙ ap told (quay_worded line h.word ∙ ap (result_map_both OfQuay (λ e. e)) (quay_here line q h)),
  );
  sailing = λ s. (
    sailing_told line s,
    λ h.
        spoken_read line (spoken line 115 (first_byte line (codes "sailing") 7 (omega arith) h.word) (omega arith)) ∙ ap told (sailing_worded line h.word ∙ ap (result_map_both OfSailing (λ e. e)) (sailing_here line s h)),
  );
}
