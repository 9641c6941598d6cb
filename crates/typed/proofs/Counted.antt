-- Numbers that are read one after the other, as many as are due. Assumes nothing.
use Rattle.std.proofs.Common.{◌≡◌, ℕ, zero, suc, ◌<◌, ◌≤◌, eqb, ◌⊎◌, List, [], ◌∷◌, length, Some, None, Ok, Err, Option, Result, sym, refl, ap, ◌∙◌, subst, inl, inr, ⊎_elim, arith}
use Rattle.std.specs.Option.{ok_or}
use Rattle.std.specs.Result.{result_map_both}
use Rattle.std.proofs.lemmas.Bool.{cases_Bool, eqb-true, eqb-false, eq-eqb, ne_eqb, cond-true, cond-false}
use Rattle.timetable.specs.declared.refusal.Refusal.{Refusal}
use Rattle.timetable.specs.declared.refusal.Refusal.TheVariants.{NoNumber, Surplus}
use Rattle.numerals.specs.declared.field.Field.{Field}
use Rattle.numerals.specs.Numbers.{number_at, Numeral}
use Rattle.numerals.proofs.Standing.{number_tells, number_told}
use Rattle.typed.specs.Fields.{number_here, and_then, whole}
use Rattle.typed.specs.Forms.{Stand}

abbrev pub put : ℕ → Result (List ℕ) Refusal → Result (List ℕ) Refusal
put v r = result_map_both (λ vs. v ∷ vs) (λ e. e) r

-- the next n numbers of a line, which end it
abbrev pub numbers : List ℕ → ℕ → ℕ → Result (List ℕ) Refusal
numbers line at zero = whole line at []
numbers line at (suc n) = and_then (number_here line at) (λ f. put f.value (numbers line f.next n))

-- a number where it is due, or none there
here_or_not : (line : List ℕ) (at : ℕ) → ((f : Field ℕ) × (number_here line at ≡ Ok f) × Numeral line at f) ⊎ ((number_here line at ≡ Err NoNumber) × ((f : Field ℕ) → Numeral line at f → ⊥))
here_or_not line at = go (number_at line at) refl
  where
    go : (o : Option (Field ℕ)) → number_at line at ≡ o → ((f : Field ℕ) × (number_here line at ≡ Ok f) × Numeral line at f) ⊎ ((number_here line at ≡ Err NoNumber) × ((f : Field ℕ) → Numeral line at f → ⊥))
    go None e = inr (ap (λ o. ok_or o NoNumber) e, λ f h. let q = number_told line at f h in let z : ◌≡◌ {A = ℕ} 0 1 = cc in omega arith)
    go (Some f) e = inl (f, ap (λ o. ok_or o NoNumber) e, number_tells line at f e)

number_here_lem : (line : List ℕ) (at : ℕ) (f : Field ℕ) → Numeral line at f → number_here line at ≡ Ok f
number_here_lem line at f h = ap (λ o. ok_or o NoNumber) (number_told line at f h)

none_here : (line : List ℕ) (at : ℕ) → ((f : Field ℕ) → Numeral line at f → ⊥) → number_here line at ≡ Err NoNumber
none_here line at h = ⊎_elim (λ w. absurd (h w.0 w.2)) (λ w. w.0) (here_or_not line at)

-- how the numbers go on after one, and that they do not after none
goes_on : (line : List ℕ) (at n : ℕ) (f : Field ℕ) → number_here line at ≡ Ok f → numbers line at (suc n) ≡ put f.value (numbers line f.next n)
goes_on line at n f e = ap (λ r. and_then r (λ g. put g.value (numbers line g.next n))) e

stops : (line : List ℕ) (at n : ℕ) → number_here line at ≡ Err NoNumber → numbers line at (suc n) ≡ Err NoNumber
stops line at n e = ap (λ r. and_then r (λ g. put g.value (numbers line g.next n))) e

-- what came of an answer with one number in front
pub record Put (v : ℕ) (r : Result (List ℕ) Refusal) (vs : List ℕ) : Type 0 where
  pub rest : List ℕ
  pub is : vs ≡ v ∷ rest
  pub came : r ≡ Ok rest

put_ok : (v : ℕ) (r : Result (List ℕ) Refusal) (vs : List ℕ) → put v r ≡ Ok vs → Put v r vs
put_ok v (Ok xs) vs h = record { rest = xs; is = cc; came = refl }
put_ok v (Err e) vs h = let z : ◌≡◌ {A = ℕ} 0 1 = cc in absurd (omega arith)

put_err : (v : ℕ) (r : Result (List ℕ) Refusal) (e : Refusal) → put v r ≡ Err e → r ≡ Err e
put_err v (Ok xs) e h = let z : ◌≡◌ {A = ℕ} 0 1 = cc in absurd (omega arith)
put_err v (Err d) e h = cc

-- the end of the line, or not
ends_or_not : (line : List ℕ) (at : ℕ) → ((at ≡ length line) × (whole {X = List ℕ} line at [] ≡ Ok [])) ⊎ ((at ≡ length line → ⊥) × (whole {X = List ℕ} line at [] ≡ Err Surplus))
ends_or_not line at =
    ⊎_elim (λ t. inl (eqb-true at (length line) t, cond-true (eqb at (length line)) (Ok []) (Err Surplus) t))
    (λ t. inr (eqb-false at (length line) t, cond-false (eqb at (length line)) (Ok []) (Err Surplus) t))
    (cases_Bool (eqb at (length line)))

ok_not : {X : Type 0} (x : X) (e : Refusal) → ◌≡◌ {A = Result X Refusal} (Ok x) (Err e) → ⊥
ok_not x e h = let z : ◌≡◌ {A = ℕ} 0 1 = cc in omega arith

surplus_not : {X : Type 0} → ◌≡◌ {A = Result X Refusal} (Err Surplus) (Err NoNumber) → ⊥
surplus_not h = let z : ◌≡◌ {A = ℕ} 0 1 = cc in omega arith

same_ok : (x y : List ℕ) → ◌≡◌ {A = Result (List ℕ) Refusal} (Ok x) (Ok y) → x ≡ y
same_ok x y h = cc

-- numbers that are read stand there, up to the end
pub read_stand : (line : List ℕ) (n at : ℕ) (vs : List ℕ) → numbers line at n ≡ Ok vs → Stand line at vs (length line)
read_stand line zero at vs h = ⊎_elim yes no (ends_or_not line at)
  where
    yes : (at ≡ length line) × (whole {X = List ℕ} line at [] ≡ Ok []) → Stand line at vs (length line)
    yes w = subst (λ xs. Stand line at xs (length line)) (same_ok [] vs (sym w.1 ∙ h)) w.0

    no : (at ≡ length line → ⊥) × (whole {X = List ℕ} line at [] ≡ Err Surplus) → Stand line at vs (length line)
    no w = absurd (ok_not vs Surplus (sym h ∙ w.1))
read_stand line (suc n) at vs h =
    ⊎_elim
    (λ w.
    let p = put_ok w.0.value (numbers line w.0.next n) vs (sym (goes_on line at n w.0 w.1) ∙ h) in
    subst (λ xs. Stand line at xs (length line)) (sym p.is) (w.0.next, w.2, read_stand line n w.0.next p.rest p.came))
    (λ w. absurd (ok_not vs NoNumber (sym h ∙ stops line at n w.0)))
    (here_or_not line at)

pub stand_read : (line : List ℕ) (vs : List ℕ) (at : ℕ) → Stand line at vs (length line) → numbers line at (length vs) ≡ Ok vs
stand_read line [] at h = cond-true (eqb at (length line)) (Ok []) (Err Surplus) (eq-eqb at (length line) h)
stand_read line (v ∷ vs) at h =
    goes_on line at (length vs) (record { value = v; next = h.0 }) (number_here_lem line at (record { value = v; next = h.0 }) h.1) ∙ ap (put v) (stand_read line vs h.0 h.2)

-- fewer numbers than n from a place on, and then none
pub record Few (line : List ℕ) (at n : ℕ) : Type 0 where
  pub read : List ℕ
  pub end : ℕ
  pub stand : Stand line at read end
  pub fewer : length read < n
  pub none : (f : Field ℕ) → Numeral line end f → ⊥

pub few_tells : (line : List ℕ) (n at : ℕ) → numbers line at n ≡ Err NoNumber → Few line at n
few_tells line zero at h = ⊎_elim (λ w. absurd (ok_not [] NoNumber (sym w.1 ∙ h))) (λ w. absurd (surplus_not (sym w.1 ∙ h))) (ends_or_not line at)
few_tells line (suc n) at h =
    ⊎_elim
    (λ w. one_more w.0 w.2 (few_tells line n w.0.next (put_err w.0.value (numbers line w.0.next n) NoNumber (sym (goes_on line at n w.0 w.1) ∙ h))))
    (λ w. record { read = []; end = at; stand = refl; fewer = omega arith; none = w.1 })
    (here_or_not line at)
  where
    one_more : (f : Field ℕ) → Numeral line at f → Few line f.next n → Few line at (suc n)
    one_more f q p =
        let l = p.fewer in
        record { read = f.value ∷ p.read; end = p.end; stand = (f.next, q, p.stand); fewer = omega arith; none = p.none }

pub few_told : (line : List ℕ) (read : List ℕ) (n at end : ℕ) → Stand line at read end → length read < n → ((f : Field ℕ) → Numeral line end f → ⊥) → numbers line at n ≡ Err NoNumber
few_told line read zero at end h l none = absurd (omega arith)
few_told line [] (suc n) at end h l none = stops line at n (none_here line at (λ f q. none f (subst (λ k. Numeral line k f) h q)))
few_told line (v ∷ vs) (suc n) at end h l none =
    goes_on line at n (record { value = v; next = h.0 }) (number_here_lem line at (record { value = v; next = h.0 }) h.1) ∙ ap (put v) (few_told line vs n h.0 end h.2 (omega arith) none)

-- n numbers from a place on, and then something else than the end
pub record Many (line : List ℕ) (at n : ℕ) : Type 0 where
  pub read : List ℕ
  pub end : ℕ
  pub stand : Stand line at read end
  pub all : length read ≡ n
  pub more : end < length line

pub many_tells : (line : List ℕ) (n at : ℕ) → at ≤ length line → numbers line at n ≡ Err Surplus → Many line at n
many_tells line zero at inside h = ⊎_elim (λ w. absurd (ok_not [] Surplus (sym w.1 ∙ h))) no (ends_or_not line at)
  where
    less : (a b : ℕ) → a ≤ b → (a ≡ b → ⊥) → a < b
    less a b l f = ⊎_elim (λ e. absurd (f (eqb-true a b e))) (λ e. let g = eqb-false a b e in omega arith) (cases_Bool (eqb a b))

    no : (at ≡ length line → ⊥) × (whole {X = List ℕ} line at [] ≡ Err Surplus) → Many line at 0
    no w = record { read = []; end = at; stand = refl; all = refl; more = less at (length line) inside w.0 }
many_tells line (suc n) at inside h =
    ⊎_elim
    (λ w. one_more w.0 w.2 (many_tells line n w.0.next w.2.inside (put_err w.0.value (numbers line w.0.next n) Surplus (sym (goes_on line at n w.0 w.1) ∙ h))))
    (λ w. absurd (surplus_not (sym h ∙ stops line at n w.0)))
    (here_or_not line at)
  where
    one_more : (f : Field ℕ) → Numeral line at f → Many line f.next n → Many line at (suc n)
    one_more f q p = record { read = f.value ∷ p.read; end = p.end; stand = (f.next, q, p.stand); all = ap suc p.all; more = p.more }

pub many_told : (line : List ℕ) (read : List ℕ) (n at end : ℕ) → Stand line at read end → length read ≡ n → end < length line → numbers line at n ≡ Err Surplus
many_told line [] zero at end h l more = cond-false (eqb at (length line)) (Ok []) (Err Surplus) (ne_eqb at (length line) (λ e. omega arith))
many_told line [] (suc n) at end h l more = absurd (omega arith)
many_told line (v ∷ vs) zero at end h l more = absurd (omega arith)
many_told line (v ∷ vs) (suc n) at end h l more =
    goes_on line at n (record { value = v; next = h.0 }) (number_here_lem line at (record { value = v; next = h.0 }) h.1) ∙ ap (put v) (many_told line vs n h.0 end h.2 (omega arith) more)

-- nothing else can go wrong
pub wrong : (line : List ℕ) (n at : ℕ) (e : Refusal) → numbers line at n ≡ Err e → (e ≡ NoNumber) ⊎ (e ≡ Surplus)
wrong line zero at e h = ⊎_elim (λ w. absurd (ok_not [] e (sym w.1 ∙ h))) (λ w. inr (same Surplus e (sym w.1 ∙ h))) (ends_or_not line at)
  where
    same : (d e : Refusal) → ◌≡◌ {A = Result (List ℕ) Refusal} (Err d) (Err e) → e ≡ d
    same d e q = cc
wrong line (suc n) at e h =
    ⊎_elim (λ w. wrong line n w.0.next e (put_err w.0.value (numbers line w.0.next n) e (sym (goes_on line at n w.0 w.1) ∙ h)))
    (λ w. inl (same NoNumber e (sym (stops line at n w.0) ∙ h)))
    (here_or_not line at)
  where
    same : (d e : Refusal) → ◌≡◌ {A = Result (List ℕ) Refusal} (Err d) (Err e) → e ≡ d
    same d e q = cc
