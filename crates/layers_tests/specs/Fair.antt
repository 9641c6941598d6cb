-- What is fair is lawful. Assumes nothing.
use Rattle.std.specs.Prelude.{◌≡◌, ℕ, zero, suc, ◌<◌, ◌≤◌, true, not, List, [], ◌∷◌, length, get_or, replicate, Some, None, Ok, Err, Option, ◌==◌, nat_le, nat_lt, slice_index, slice_index_or}
use Rattle.std.proofs.Common.{sym, ◌∙◌, ap, subst, ⊎_elim, arith}
use Rattle.std.proofs.lemmas.Bool.{and_parts, ltb-true, leb-true, eqb-false, not-true, cases_lt, cond-true, cond-false, lt-ltb, le-ltb}
use Rattle.std.proofs.lemmas.List.{get_or_past, get_or-replicate, length-replicate}
use Rattle.timetable.specs.declared.sailing.Sailing.{Sailing}
use Rattle.timetable.specs.declared.span.Span.{Span}
use Rattle.timetable.specs.declared.refusal.Refusal.TheVariants.{NoQuay}
use Rattle.timetable.specs.Times.{day}
use Rattle.timetable.specs.Timetables.{Within, Lawful, span_at}
use Rattle.timetable.specs.Answers.{span_of}
use Rattle.layers_tests.specs.Written.{written, short, right_place, all_right, fair}

short_at : (xs : List ℕ) (k : ℕ) → short xs ≡ true → slice_index xs k < day
short_at [] k h = omega arith
short_at (x ∷ xs) zero h = ltb-true x day (and_parts (nat_lt x day) (short xs) h).0
short_at (x ∷ xs) (suc k) h = short_at xs k (and_parts (nat_lt x day) (short xs) h).1

right_some : (n : ℕ) (o : Option Sailing) (s : Sailing) → right_place n o ≡ true → o ≡ Some s → Within n s
right_some n None s h e = let z : ◌≡◌ {A = ℕ} 0 1 = cc in absurd (omega arith)
right_some n (Some r) s h e =
    let same : r ≡ s = cc in
    let (a, h₁) = and_parts (nat_lt r.from n) _ h in
    let (b, h₂) = and_parts (nat_lt r.to n) _ h₁ in
    let (c, h₃) = and_parts (not (r.to == r.from)) _ h₂ in
    let (d, f) = and_parts (nat_lt r.dep day) _ h₃ in
    subst (Within n) same (record { from_quay = ltb-true _ _ a; to_quay = ltb-true _ _ b; apart = eqb-false _ _ (not-true _ c); dep_day = ltb-true _ _ d; arr_day = ltb-true _ _ f })

right_at : (n : ℕ) (xs : List (Option Sailing)) (p : ℕ) (s : Sailing) → all_right n xs ≡ true → slice_index_or xs p None ≡ Some s → Within n s
right_at n [] p s h e = let z : ◌≡◌ {A = ℕ} 0 1 = cc in absurd (omega arith)
right_at n (x ∷ xs) zero s h e = right_some n x s (and_parts (right_place n x) (all_right n xs) h).0 e
right_at n (x ∷ xs) (suc p) s h e = right_at n xs p s (and_parts (right_place n x) (all_right n xs) h).1 e

stands : (places : List (Option Sailing)) (p : ℕ) (s : Sailing) → slice_index_or places p None ≡ Some s → p < length places
stands places p s e = ⊎_elim (λ lt. lt)
    (λ le. let n : get_or places p None ≡ None = get_or_past places p None le in let z : ◌≡◌ {A = ℕ} 0 1 = cc in absurd (omega arith))
    (cases_lt p (length places))

abbrev whole : ℕ → Span
whole n = record { start = 0; end = n }

span_in : (changes : List ℕ) (places : List (Option Sailing)) (k : ℕ) → k < length changes → span_at (written changes places) k ≡ whole (length places)
span_in changes places k h = get_or-replicate (length changes) k (whole (length places)) (whole 0) h

span_out : (changes : List ℕ) (places : List (Option Sailing)) (k : ℕ) → length changes ≤ k → span_at (written changes places) k ≡ whole 0
span_out changes places k h = get_or_past (replicate (length changes) (whole (length places))) k (whole 0) (rw length-replicate h)

span_order : (changes : List ℕ) (places : List (Option Sailing)) (k : ℕ) → ((span_at (written changes places) k).start ≤ (span_at (written changes places) k).end) × ((span_at (written changes places) k).end ≤ length places)
span_order changes places k = ⊎_elim
    (λ lt. subst (λ (x : Span). (x.start ≤ x.end) × (x.end ≤ length places)) (sym (span_in changes places k lt)) (omega arith, omega arith))
    (λ le. subst (λ (x : Span). (x.start ≤ x.end) × (x.end ≤ length places)) (sym (span_out changes places k le)) (omega arith, omega arith))
    (cases_lt k (length changes))

pub fair_lawful : (changes : List ℕ) (places : List (Option Sailing)) → fair changes places ≡ true → Lawful (written changes places)
fair_lawful changes places h =
    let (z, h₀) = and_parts (nat_le 1 (length changes)) _ h in
    let (a, h₁) = and_parts (nat_le (length changes) 256) _ h₀ in
    let (b, h₂) = and_parts (nat_le (length places) 3072) _ h₁ in
    let (c, d) = and_parts (short changes) _ h₂ in
    record {
      some_quay = leb-true _ _ z;
      few_quays = leb-true _ _ a;
      few_places = leb-true _ _ b;
      as_many_spans = length-replicate (length changes) (whole (length places));
      change_day = λ k. short_at changes k c;
      within = λ p s e. right_at (length changes) places p s d e;
      span_order = λ k. (span_order changes places k).0;
      span_end = λ k. (span_order changes places k).1;
      spanned = λ p s e. subst (λ (x : Span). (x.start ≤ p) × (p < x.end)) (sym (span_in changes places s.from (right_at (length changes) places p s d e).from_quay)) (omega arith, stands places p s e);
    }

pub span_told : (changes : List ℕ) (places : List (Option Sailing)) (k : ℕ) → k < length changes → Ok (whole (length places)) ≡ span_of (written changes places) k
span_told changes places k h =
    let n = length-replicate (length changes) (whole (length places)) in
    ap Ok (sym (span_in changes places k h)) ∙ sym (cond-true _ (Ok (span_at (written changes places) k)) (Err NoQuay) (lt-ltb k _ (omega arith)))

pub span_untold : (changes : List ℕ) (places : List (Option Sailing)) (k : ℕ) → length changes ≤ k → Err NoQuay ≡ span_of (written changes places) k
span_untold changes places k h =
    let n = length-replicate (length changes) (whole (length places)) in
    sym (cond-false _ (Ok (span_at (written changes places) k)) (Err NoQuay) (le-ltb k _ (omega arith)))
