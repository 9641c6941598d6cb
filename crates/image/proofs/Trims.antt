-- Names without trailing spaces. Assumes nothing.
use Rattle.std.proofs.Common.{◌≡◌, ℕ, zero, suc, ◌-◌, ◌<◌, ◌≤◌, eqb, List, [], length, get_or, take, Ok, Err, sym, ap, ◌∙◌, subst, ⊎_elim, zero-add, arith, length-take}
use lib.ListN.{length-map}
use Rattle.std.specs.List.{suffix_len}
use Rattle.std.proofs.lemmas.List.FromFn.{length-map-range_with_len, get_or-map-range_with_len}
use Rattle.std.proofs.lemmas.List.{get_or-take, get_or-map}
use Rattle.std.proofs.lemmas.Bool.{eq-eqb, ne_eqb, cases_eq, cases_lt}
use Rattle.std.proofs.lemmas.List.Sums.{suffix_len_is}
use Rattle.timetable.specs.Answers.{asked}
use Rattle.timetable.specs.declared.refusal.Refusal.TheVariants.{NoQuay}
use Rattle.timetable.proofs.Told.{asked_in, asked_out}
use Rattle.image.specs.Records.{quays_in, quay_at, quays_of}
use Rattle.image.specs.Names.{letters_left, trimmed, Trims, names_in}

left_le : (xs : List ℕ) (n : ℕ) → letters_left xs n ≤ n
left_le xs zero = omega arith
left_le xs (suc n) = ⊎_elim (λ e. rw (eq-eqb (get_or xs n 0) 32 e) (omega (arith, left_le xs n))) (λ e. rw (ne_eqb (get_or xs n 0) 32 e) (omega arith)) (cases_eq (get_or xs n 0) 32)

left_spaces : (xs : List ℕ) (n i : ℕ) → letters_left xs n ≤ i → i < n → get_or xs i 0 ≡ 32
left_spaces xs zero i a b = absurd (omega arith)
left_spaces xs (suc n) i a b =
    ⊎_elim
    (λ e. ⊎_elim (λ s. ap (λ k. get_or xs k 0) s ∙ e) (λ o. left_spaces xs n i (rw (eq-eqb (get_or xs n 0) 32 e) at a) (omega arith)) (cases_eq i n))
    (λ e. let c = rw (ne_eqb (get_or xs n 0) 32 e) at a in absurd (omega arith))
    (cases_eq (get_or xs n 0) 32)

left_solid : (xs : List ℕ) (n i : ℕ) → letters_left xs n ≡ suc i → get_or xs i 0 ≡ 32 → ⊥
left_solid xs zero i a b = omega arith
left_solid xs (suc n) i a b =
    ⊎_elim
    (λ e. left_solid xs n i (rw (eq-eqb (get_or xs n 0) 32 e) at a) b)
    (λ e. let c = rw (ne_eqb (get_or xs n 0) 32 e) at a in let s : i ≡ n = omega arith in e (ap (λ k. get_or xs k 0) (sym s) ∙ b))
    (cases_eq (get_or xs n 0) 32)

-- the spaces that end a name are what it is trimmed by
pub left_is : (xs : List ℕ) → length xs - suffix_len (λ b. eqb b 32) xs ≡ letters_left xs (length xs)
left_is xs =
    let n = letters_left xs (length xs) in
    let low = left_le xs (length xs) in
    let spaces = suffix_len_is (λ b. eqb b 32) xs n 0 low (λ k a b. eq-eqb (get_or xs k 0) 32 (left_spaces xs (length xs) k a b)) (λ l. let e : n ≡ suc (n - 1) = omega arith in ne_eqb (get_or xs (n - 1) 0) 32 (left_solid xs (length xs) (n - 1) e)) in
    omega (arith, spaces, low)

pub trims : (xs : List ℕ) → Trims xs (trimmed xs)
trims xs =
    let n = letters_left xs (length xs) in
    let l : length (trimmed xs) ≡ n = simp length-take (omega (arith, left_le xs (length xs))) in
    record {
      front = ap (λ k. take k xs) (sym l);
      spaces = λ i a b. left_spaces xs (length xs) i (omega arith) b;
      solid = λ i e h. left_solid xs (length xs) i (sym l ∙ e) (sym (get_or-take n xs i 0 (omega arith)) ∙ h);
    }

pub name_told : (bs : List ℕ) (q : ℕ) → q < quays_in bs → asked (names_in bs) q [] NoQuay ≡ Ok (trimmed (quay_at bs q).name)
name_told bs q l =
    let n = length-map-range_with_len (quay_at bs) 0 (quays_in bs) in
    let m = length-map (quays_of bs) (λ x. trimmed x.name) in
    asked_in (names_in bs) q [] NoQuay (omega (arith, n, m))
    ∙ ap Ok (get_or-map (λ x. trimmed x.name) (quays_of bs) q (quay_at bs 0) [] (omega (arith, n)) ∙ ap (λ x. trimmed x.name) (get_or-map-range_with_len (quay_at bs) 0 (quays_in bs) q q (quay_at bs 0) l (zero-add q)))

pub name_untold : (bs : List ℕ) (q : ℕ) → quays_in bs ≤ q → asked (names_in bs) q [] NoQuay ≡ Err NoQuay
name_untold bs q l = asked_out (names_in bs) q [] NoQuay (omega (arith, length-map-range_with_len (quay_at bs) 0 (quays_in bs), length-map (quays_of bs) (λ x. trimmed x.name)))

-- a name that is told is the trimmed name of the quay
pub name_trims : (bs : List ℕ) (q : ℕ) (n : List ℕ) → asked (names_in bs) q [] NoQuay ≡ Ok n → Trims (quay_at bs q).name n
name_trims bs q n e =
    ⊎_elim
    (λ l. let t = name_told bs q l in let s : trimmed (quay_at bs q).name ≡ n = cc in subst (λ ys. Trims (quay_at bs q).name ys) s (trims (quay_at bs q).name))
    (λ l. let t = name_untold bs q l in let z : ◌≡◌ {A = ℕ} 0 1 = cc in absurd (omega arith))
    (cases_lt q (quays_in bs))
