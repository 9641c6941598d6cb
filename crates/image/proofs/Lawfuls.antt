-- Sailings within the limits, by quay, make a lawful timetable. Assumes nothing.
use Rattle.std.proofs.Common.{◌≡◌, ℕ, zero, suc, ◌+◌, ◌<◌, ◌≤◌, List, [], ◌∷◌, map, length, get_or, Some, None, subst, ⊎_elim, zero-add, arith}
use lib.ListN.{length-map}
use Rattle.std.specs.List.{AllByRecursion as All}
use Rattle.std.proofs.lemmas.List.FromFn.{length-map-range_with_len, get_or-map-range_with_len}
use Rattle.std.proofs.ByRecursion.{All-get_or}
use Rattle.timetable.specs.declared.sailing.Sailing.{Sailing}
use Rattle.std.proofs.lemmas.List.{get_or_past}
use Rattle.std.proofs.lemmas.Bool.{cases_lt}
use Rattle.timetable.specs.Timetables.{Lawful, Within, nowhere, span_at}
use Rattle.image.specs.Meanings.{timetable, span_for}
use Rattle.image.proofs.Sorted.{Sorted, under_le, under_more, under_upto, under_past}

pub record Found (xs : List Sailing) (p : ℕ) (s : Sailing) : Type 0 where
  pub inside : p < length xs
  pub is : get_or xs p s ≡ s

pub found : (xs : List Sailing) (p : ℕ) (s : Sailing) → get_or (map Some xs) p None ≡ Some s → Found xs p s
found [] p s e = let z : ◌≡◌ {A = ℕ} 0 1 = cc in absurd (omega arith)
found (x ∷ xs) zero s e = record { inside = omega arith; is = cc }
found (x ∷ xs) (suc p) s e = let r = found xs p s e in record { inside = omega (arith, r.inside); is = r.is }

pub record Limits (changes : List ℕ) (xs : List Sailing) : Type 0 where
  pub some_quay : 1 ≤ length changes
  pub few_quays : length changes ≤ 256
  pub few_places : length xs ≤ 3072
  pub change_day : All (λ c. c ≤ 1439) changes
  pub within : All (Within (length changes)) xs
  pub by_quay : Sorted (λ s. s.from) xs

pub timetable_lawful : (changes : List ℕ) (xs : List Sailing) → Limits changes xs → Lawful (timetable changes xs)
timetable_lawful changes xs h =
    let n = length changes in
    let t = timetable changes xs in
    let from : Sailing → ℕ = λ s. s.from in
    let spans = length-map-range_with_len (span_for xs) 0 n in
    let row : (q : ℕ) → q < n → span_at t q ≡ span_for xs q = λ q l. get_or-map-range_with_len (span_for xs) 0 n q q nowhere l (zero-add q) in
    let past : (q : ℕ) → n ≤ q → span_at t q ≡ nowhere = λ q l. get_or_past t.spans q nowhere (omega (arith, spans)) in
    record {
      some_quay = h.some_quay;
      few_quays = h.few_quays;
      few_places = rw (length-map xs Some) h.few_places;
      as_many_spans = spans;
      change_day = λ q.
          ⊎_elim
          (λ l. omega (arith, All-get_or (λ c. c ≤ 1439) changes q 0 l h.change_day))
          (λ l. omega (arith, get_or_past changes q 0 l))
          (cases_lt q n);
      within = λ p s e. let f = found xs p s e in subst (Within n) f.is (All-get_or (Within n) xs p s f.inside h.within);
      span_order = λ q. ⊎_elim (λ l. rw (row q l) (under_more from q xs)) (λ l. rw (past q l) (omega arith)) (cases_lt q n);
      span_end = λ q. ⊎_elim (λ l. rw (row q l, length-map xs Some) (under_le from (q + 1) xs)) (λ l. rw (past q l) (omega arith)) (cases_lt q n);
      spanned = λ p s e.
          let f = found xs p s e in
          let w = subst (Within n) f.is (All-get_or (Within n) xs p s f.inside h.within) in
          let a = under_upto from xs p s h.by_quay f.inside in
          let b = under_past from xs p s h.by_quay f.inside in
          rw (row s.from w.from_quay) (rw f.is at a, rw f.is at b);
    }
