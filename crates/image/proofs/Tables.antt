-- Questions about a row of a table. Assumes nothing.
use Rattle.std.proofs.Common.{◌≡◌, ℕ, ◌+◌, ◌<◌, ◌≤◌, List, map, length, get_or, Some, None, Ok, Err, sym, ap, ◌∙◌, ⊎_elim, zero-add, arith}
use lib.ListN.{length-map}
use Rattle.std.specs.List.{range_with_len}
use Rattle.std.proofs.lemmas.List.FromFn.{length-map-range_with_len, get_or-map-range_with_len}
use Rattle.std.proofs.lemmas.List.{get_or-map, get_or_past}
use Rattle.std.proofs.lemmas.Bool.{cases_lt}
use Rattle.timetable.proofs.Told.{asked_in, asked_out}
use Rattle.image.specs.Records.{number_at, quay_start, quays_in, quay_at, quays_of}
use Rattle.timetable.specs.Timetables.{nowhere}
use Rattle.timetable.specs.Answers.{change_of, place_of, span_of}
use Rattle.image.specs.Meanings.{span_for, timetable, changes_of}
use Rattle.timetable.specs.declared.sailing.Sailing.{Sailing}
use Rattle.timetable.specs.declared.refusal.Refusal.TheVariants.{NoQuay, NoPlace}

pub quays_are : (bs : List ℕ) → length (changes_of bs) ≡ quays_in bs
quays_are bs = length-map (quays_of bs) (λ q. q.change) ∙ length-map-range_with_len (quay_at bs) 0 (quays_in bs)

pub change_is : (bs : List ℕ) (q : ℕ) → q < quays_in bs → get_or (changes_of bs) q 0 ≡ number_at bs (quay_start q + 4)
change_is bs q l =
    get_or-map (λ q. q.change) (quays_of bs) q (quay_at bs 0) 0 (rw (length-map-range_with_len (quay_at bs) 0 (quays_in bs)) l)
    ∙ ap (λ x. x.change) (get_or-map-range_with_len (quay_at bs) 0 (quays_in bs) q q (quay_at bs 0) l (zero-add q))

module _ (bs : List ℕ) (xs : List Sailing) (q : ℕ) where
  pub change_told : q < quays_in bs → change_of (timetable (changes_of bs) xs) q ≡ Ok (number_at bs (quay_start q + 4))
  change_told l = asked_in (changes_of bs) q 0 NoQuay (rw (quays_are bs) l) ∙ ap Ok (change_is bs q l)

  pub change_untold : quays_in bs ≤ q → change_of (timetable (changes_of bs) xs) q ≡ Err NoQuay
  change_untold l = asked_out (changes_of bs) q 0 NoQuay (rw (quays_are bs) l)

  spans_are : length (map (span_for xs) (range_with_len 0 (length (changes_of bs)))) ≡ quays_in bs
  spans_are = length-map-range_with_len (span_for xs) 0 (length (changes_of bs)) ∙ quays_are bs

  pub span_told : q < quays_in bs → span_of (timetable (changes_of bs) xs) q ≡ Ok (span_for xs q)
  span_told l =
      let n = length (changes_of bs) in
      asked_in (map (span_for xs) (range_with_len 0 n)) q nowhere NoQuay (rw spans_are l)
      ∙ ap Ok (get_or-map-range_with_len (span_for xs) 0 n q q nowhere (rw (quays_are bs) l) (zero-add q))

  pub span_untold : quays_in bs ≤ q → span_of (timetable (changes_of bs) xs) q ≡ Err NoQuay
  span_untold l = asked_out (map (span_for xs) (range_with_len 0 (length (changes_of bs)))) q nowhere NoQuay (rw spans_are l)

blank : Sailing
blank = record { run = 0; leg = 0; from = 0; to = 0; dep = 0; arr = 0 }

module _ (changes : List ℕ) (xs : List Sailing) (p : ℕ) where
  some_inside : (s : Sailing) → Some s ≡ get_or (map Some xs) p None → p < length (map Some xs)
  some_inside s e = ⊎_elim (λ l. l) (λ l. let r = get_or_past (map Some xs) p None l in let z : ◌≡◌ {A = ℕ} 0 1 = cc in absurd (omega arith)) (cases_lt p (length (map Some xs)))

  pub place_told : (s : Sailing) → Some s ≡ get_or (map Some xs) p None → place_of (timetable changes xs) p ≡ Ok (Some s)
  place_told s e = asked_in (map Some xs) p None NoPlace (some_inside s e) ∙ ap Ok (sym e)

  pub place_untold : None ≡ get_or (map Some xs) p None → place_of (timetable changes xs) p ≡ Err NoPlace
  place_untold e =
      asked_out (map Some xs) p None NoPlace
      (⊎_elim (λ l. let n : p < length xs = omega (arith, length-map xs Some) in let r = get_or-map Some xs p blank None n in let z : ◌≡◌ {A = ℕ} 0 1 = cc in absurd (omega arith)) (λ l. l) (cases_lt p (length (map Some xs))))
