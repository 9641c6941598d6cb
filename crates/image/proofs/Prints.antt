-- The sailings of a printed image. Assumes nothing.
use Rattle.std.proofs.Common.{◌≡◌, ℕ, ◌+◌, ◌<◌, ◌≤◌, true, List, map, length, get_or, is_ok, Some, None, Ok, Err, refl, ap, ◌∙◌, arith}
use lib.ListN.{length-map}
use Rattle.std.proofs.lemmas.List.FromFn.{length-map-range_with_len}
use Rattle.std.proofs.ByRecursion.{All-map}
use Rattle.std.proofs.lemmas.List.{get_or-map}
use Rattle.timetable.specs.declared.sailing.Sailing.{Sailing}
use Rattle.image.specs.Records.{number_at, quays_in, entries_in, entry_at, sailing_at, sailings_of, quay_at, quays_of}
use Rattle.image.specs.Checks.{printed_check}
use Rattle.timetable.specs.Timetables.{Within, Lawful}
use Rattle.image.specs.Meanings.{below, changes_of, printed}
use Rattle.timetable.specs.Answers.{place_of}
use Rattle.image.proofs.Good.{PrintedGood, printed_good}
use Rattle.image.proofs.Cuts.{all_rows}
use Rattle.image.proofs.Contained.{rises_in, row}
use Rattle.image.proofs.Exact.{ok_is}
use Rattle.timetable.specs.declared.refusal.Refusal.TheVariants.{NoPlace}
use Rattle.image.proofs.Sorted.{Sorted, sorted_from, sorted_at, under_is}
use Rattle.image.proofs.Lawfuls.{timetable_lawful}
use Rattle.timetable.proofs.Told.{asked_in, asked_out}
use Rattle.image.proofs.Tables.{quays_are}

abbrev pub row_in : List ℕ → ℕ → Sailing
row_in bs p = sailing_at bs (entry_at 16 (quays_in bs) p)

abbrev pub from_in : List ℕ → ℕ → ℕ
from_in bs p = number_at bs (entry_at 16 (quays_in bs) p + 8)

pub places_are : (bs : List ℕ) → length (sailings_of bs) ≡ entries_in bs
places_are bs = length-map-range_with_len (row_in bs) 0 (entries_in bs)

pub places_long : (bs : List ℕ) → length (map Some (sailings_of bs)) ≡ entries_in bs
places_long bs = length-map (sailings_of bs) Some ∙ places_are bs

module _ (bs : List ℕ) (ok : is_ok (printed_check bs) ≡ true) where
  pub good : PrintedGood bs
  good = printed_good bs (ok_is (printed_check bs) ok)

  by_quay : Sorted (λ s. s.from) (sailings_of bs)
  by_quay = sorted_from (λ s. s.from) (sailings_of bs) (rises_in bs 16 (row_in bs) (λ s. s.from) (entries_in bs) (quays_in bs) (omega arith) (λ i. refl) (λ i l. (good.entries i l).quays_good))

  pub printed_lawful : Lawful (printed bs)
  printed_lawful =
      let n = quays_in bs in
      timetable_lawful (changes_of bs) (sailings_of bs) (record {
        some_quay = omega (arith, quays_are bs, good.head.some_quay);
        few_quays = omega (arith, quays_are bs, good.head.few_quays);
        few_places = omega (arith, places_are bs, good.head.few_entries);
        change_day = All-map (λ c. c ≤ 1439) (λ q. q.change) (quays_of bs) (all_rows (λ q. q.change ≤ 1439) (quay_at bs) n 0 (λ i x y. (good.quays i (omega arith)).change_day));
        within = rw (quays_are bs) (all_rows (Within n) (row_in bs) (entries_in bs) 0 (λ i x y. let s = good.entries i (omega arith) in record { from_quay = s.quays_good.from_quay; to_quay = s.quays_good.to_quay; apart = s.quays_good.apart; dep_day = omega (arith, s.dep_day); arr_day = omega (arith, s.arr_day) }));
        by_quay = by_quay;
      })

  from_is : (i : ℕ) → i < entries_in bs → (get_or (sailings_of bs) i (row_in bs 0)).from ≡ from_in bs i
  from_is i l = ap (λ s. s.from) (row (row_in bs) (entries_in bs) i (row_in bs 0) l)

  pub from_rises : (i j : ℕ) → i ≤ j → j < entries_in bs → from_in bs i ≤ from_in bs j
  from_rises i j h l = omega (arith, sorted_at (λ s. s.from) (sailings_of bs) (row_in bs 0) by_quay i j h (rw (places_are bs) l), from_is i (omega arith), from_is j l)

  pub below_is : (q lo : ℕ) → lo ≤ entries_in bs → ((k : ℕ) → k < lo → from_in bs k < q) → ((k : ℕ) → lo ≤ k → k < entries_in bs → q ≤ from_in bs k) → lo ≡ below q (sailings_of bs)
  below_is q lo l a b =
      under_is (λ s. s.from) q (sailings_of bs) (row_in bs 0) lo (rw (places_are bs) l)
      (λ k i. omega (arith, a k i, from_is k (omega arith)))
      (λ k i j. let m : k < entries_in bs = omega (arith, places_are bs) in omega (arith, b k i m, from_is k m))

module _ (bs : List ℕ) (p : ℕ) where
  pub row_told : p < entries_in bs → place_of (printed bs) p ≡ Ok (Some (row_in bs p))
  row_told l =
      asked_in (map Some (sailings_of bs)) p None NoPlace (rw (places_long bs) l)
      ∙ ap Ok (get_or-map Some (sailings_of bs) p (row_in bs 0) None (rw (places_are bs) l) ∙ ap Some (row (row_in bs) (entries_in bs) p (row_in bs 0) l))

  pub row_untold : entries_in bs ≤ p → place_of (printed bs) p ≡ Err NoPlace
  row_untold l = asked_out (map Some (sailings_of bs)) p None NoPlace (rw (places_long bs) l)
