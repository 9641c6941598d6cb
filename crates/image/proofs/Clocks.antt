-- The sailings of a clock-face image. Assumes nothing.
use Rattle.std.proofs.Common.{◌≡◌, ℕ, ◌+◌, ◌-◌, ◌*◌, ◌<◌, ◌≤◌, true, cond, ltb, List, [], ◌∷◌, ◌++◌, map, length, get_or, drop, is_ok, Some, None, sum_by, sym, refl, ap, ◌∙◌, subst, ⊎_elim, mul-le-mul_right, zero-add, add-one, arith, length-append}
use mathlib.Core.List.{map-append}
use lib.ListN.{length-map}
use Rattle.std.specs.List.{range_with_len, flat_map, AllByRecursion as All}
use Rattle.std.proofs.lemmas.List.FromFn.{length-map-range_with_len, get_or-map-range_with_len, map-range_with_len_more}
use Rattle.std.proofs.ByRecursion.{All-map, All-weaker}
use Rattle.std.proofs.lemmas.List.{at_drop_more, get_or_append_left, get_or-append_right, get_or-map, flat_map_more}
use Rattle.std.proofs.lemmas.List.Sums.{sum_by-cons, sum_by-append}
use Rattle.std.proofs.lemmas.Bool.{lt-ltb, le-ltb, cases_lt, cond_both}
use Rattle.image.specs.declared.series.Series.{Series}
use Rattle.image.specs.Records.{quays_in, entries_in, entry_at, series_at, series_of, quay_at, quays_of}
use Rattle.image.specs.Checks.{clock_check, places_to}
use Rattle.timetable.specs.Timetables.{Within, Lawful}
use Rattle.image.specs.Meanings.{below, member, members, changes_of, clock_sailings, clock_face}
use Rattle.image.proofs.Good.{ClockGood, clock_good}
use Rattle.image.proofs.Cuts.{all_rows}
use Rattle.image.proofs.Contained.{rises_in, places_are, places_fit, row}
use Rattle.image.proofs.Exact.{ok_is}
use Rattle.image.proofs.Sorted.{Sorted, sorted_from, sorted_append, sorted_same, under_none, under_all, all_joined}
use Rattle.image.proofs.Lawfuls.{Limits, timetable_lawful}
use Rattle.image.proofs.Tables.{quays_are}

-- a series whose members are within the limits
pub record Fine (quays : ℕ) (s : Series) : Type 0 where
  pub from_quay : s.from < quays
  pub to_quay : s.to < quays
  pub apart : s.to ≡ s.from → ⊥
  pub last_day : s.first + (s.count - 1) * s.period ≤ 1439
  pub last_run : s.run + s.count ≤ 65536

pub member-day : (s : Series) (k : ℕ) → k < s.count → s.first + (s.count - 1) * s.period ≤ 1439 → s.first + k * s.period ≤ 1439
member-day s k l h = let le : k ≤ s.count - 1 = omega arith in omega (arith, mul-le-mul_right s.period le)

members_in : (quays : ℕ) (s : Series) → Fine quays s → All (Within quays) (members s)
members_in quays s h = all_rows (Within quays) (member s) s.count 0 (λ k x y. record {
  from_quay = h.from_quay;
  to_quay = h.to_quay;
  apart = h.apart;
  dep_day = omega (arith, member-day s k (omega arith) h.last_day);
  arr_day = omega arith;
})

members_from : (s : Series) → All (λ x. x.from ≡ s.from) (members s)
members_from s = all_rows (λ x. x.from ≡ s.from) (member s) s.count 0 (λ k x y. refl)

pub length-members : (s : Series) → length (members s) ≡ s.count
length-members s = length-map-range_with_len (member s) 0 s.count

pub below-members : (q : ℕ) (s : Series) → below q (members s) ≡ cond (ltb s.from q) s.count 0
below-members q s =
    ⊎_elim
    (λ l. rw (lt-ltb s.from q l) (under_all (λ x. x.from) q (members s) (All-weaker (λ x. x.from ≡ s.from) (λ x. x.from < q) (λ x e. omega arith) (members s) (members_from s)) ∙ length-members s))
    (λ l. rw (le-ltb s.from q l) (under_none (λ x. x.from) q (members s) (All-weaker (λ x. x.from ≡ s.from) (λ x. q ≤ x.from) (λ x e. omega arith) (members s) (members_from s))))
    (cases_lt s.from q)

length_all : (xs : List Series) → length (flat_map members xs) ≡ sum_by (λ s. s.count) xs
length_all [] = refl
length_all (s ∷ xs) = omega (arith, length-append (members s) (flat_map members xs), length-members s, length_all xs, sum_by-cons (λ s. s.count) s xs)

sorted_all : (xs : List Series) → Sorted (λ s. s.from) xs → Sorted (λ s. s.from) (flat_map members xs)
sorted_all [] h = tt
sorted_all (s ∷ xs) h =
    let later = all_joined (λ y. s.from ≤ y.from) (λ t. s.from ≤ t.from) members (λ t l. All-weaker (λ x. x.from ≡ t.from) (λ x. s.from ≤ x.from) (λ x e. omega arith) (members t) (members_from t)) xs h.0 in
    sorted_append (λ s. s.from) (members s) (flat_map members xs) (sorted_same (λ s. s.from) s.from (members s) (members_from s)) (sorted_all xs h.1)
    (All-weaker (λ x. x.from ≡ s.from) (λ x. All (λ y. x.from ≤ y.from) (flat_map members xs)) (λ x e. All-weaker (λ y. s.from ≤ y.from) (λ y. x.from ≤ y.from) (λ y l. omega arith) (flat_map members xs) later) (members s) (members_from s))

abbrev pub row_in : List ℕ → ℕ → Series
row_in bs p = series_at bs (entry_at 20 (quays_in bs) p)

module _ (bs : List ℕ) (ok : is_ok (clock_check bs) ≡ true) where
  pub good : ClockGood bs
  good = clock_good bs (ok_is (clock_check bs) ok)

  pub fine : (p : ℕ) → p < entries_in bs → Fine (quays_in bs) (row_in bs p)
  fine p l =
      let s = good.entries p l in
      let e = s.quays_good in
      let r = s.rhythm_kept in
      record { from_quay = e.from_quay; to_quay = e.to_quay; apart = e.apart; last_day = r.last_day; last_run = r.last_run }

  all_fine : All (Fine (quays_in bs)) (series_of bs)
  all_fine = all_rows (Fine (quays_in bs)) (row_in bs) (entries_in bs) 0 (λ i x y. fine i (omega arith))

  pub all_within : All (Within (quays_in bs)) (clock_sailings bs)
  all_within = all_joined (Within (quays_in bs)) (Fine (quays_in bs)) members (members_in (quays_in bs)) (series_of bs) all_fine

  pub clock_limits : Limits (changes_of bs) (clock_sailings bs)
  clock_limits =
      let n = quays_in bs in
      let rises = rises_in bs 20 (row_in bs) (λ s. s.from) (entries_in bs) n (omega arith) (λ i. refl) (λ i l. (good.entries i l).quays_good) in
      record {
        some_quay = omega (arith, quays_are bs, good.head.some_quay);
        few_quays = omega (arith, quays_are bs, good.head.few_quays);
        few_places = omega (arith, length_all (series_of bs), places_are bs n (entries_in bs), places_fit bs n (entries_in bs) (λ i l. (good.entries i l).rhythm_kept));
        change_day = All-map (λ c. c ≤ 1439) (λ q. q.change) (quays_of bs) (all_rows (λ q. q.change ≤ 1439) (quay_at bs) n 0 (λ i x y. (good.quays i (omega arith)).change_day));
        within = rw (quays_are bs) all_within;
        by_quay = sorted_all (series_of bs) (sorted_from (λ s. s.from) (series_of bs) rises);
      }

  pub clock_lawful : Lawful (clock_face bs)
  clock_lawful = timetable_lawful (changes_of bs) (clock_sailings bs) clock_limits

  -- all sailings leave a quay below the number of quays
  pub all_below_lem : below (quays_in bs) (clock_sailings bs) ≡ length (map Some (clock_sailings bs))
  all_below_lem = under_all (λ s. s.from) (quays_in bs) (clock_sailings bs) (All-weaker (Within (quays_in bs)) (λ s. s.from < quays_in bs) (λ s w. w.from_quay) (clock_sailings bs) all_within) ∙ sym (length-map (clock_sailings bs) Some)

  pub room : (p : ℕ) → p < entries_in bs → places_to bs (quays_in bs) p + (row_in bs p).count ≤ 3072
  room p l = (good.entries p l).rhythm_kept.last_place

-- the walks
pub below_row : (bs : List ℕ) (q row : ℕ) → below q (flat_map members (map (row_in bs) (range_with_len 0 (row + 1)))) ≡ below q (flat_map members (map (row_in bs) (range_with_len 0 row))) + cond (ltb (row_in bs row).from q) (row_in bs row).count 0
below_row bs q row =
    let xs = map (row_in bs) (range_with_len 0 row) in
    let s = row_in bs row in
    ap (λ l. below q (flat_map members l)) (map-range_with_len_more (row_in bs) 0 row row (zero-add row))
    ∙ ap (below q) (sym (flat_map_more members [] xs s))
    ∙ sum_by-append (λ x. cond (ltb x.from q) 1 0) (flat_map members xs) (members s)
    ∙ ap (λ k. below q (flat_map members xs) + k) (below-members q s)

module _ (xs : List Series) (i : ℕ) (d : Series) (l : i < length xs) (left : ℕ) where
  here : get_or (map Some (flat_map members (drop i xs))) left None ≡ get_or (map Some (members (get_or xs i d)) ++ map Some (flat_map members (drop (i + 1) xs))) left None
  here =
      at_drop_more (λ ys. get_or (map Some (flat_map members ys)) left None) xs i d l
      ∙ ap (λ ys. get_or ys left None) (map-append Some (members (get_or xs i d)) (flat_map members (drop (i + 1) xs)))

  long : length (map Some (members (get_or xs i d))) ≡ (get_or xs i d).count
  long = length-map (members (get_or xs i d)) Some ∙ length-members (get_or xs i d)

  pub found_here : left < (get_or xs i d).count → get_or (map Some (flat_map members (drop i xs))) left None ≡ Some (member (get_or xs i d) left)
  found_here h =
      let s = get_or xs i d in
      here
      ∙ get_or_append_left (map Some (members s)) (map Some (flat_map members (drop (i + 1) xs))) None left (rw long h)
      ∙ get_or-map Some (members s) left (member s 0) None (rw (length-members s) h)
      ∙ ap Some (get_or-map-range_with_len (member s) 0 s.count left left (member s 0) h (zero-add left))

  pub passed_here : (get_or xs i d).count ≤ left → get_or (map Some (flat_map members (drop i xs))) left None ≡ get_or (map Some (flat_map members (drop (i + 1) xs))) (left - (get_or xs i d).count) None
  passed_here h =
      let s = get_or xs i d in
      here ∙ get_or-append_right (map Some (members s)) (map Some (flat_map members (drop (i + 1) xs))) s.count left None long h

module _ (bs : List ℕ) (p : ℕ) (l : p < entries_in bs) (s : Series) (e : s ≡ row_in bs p) where
  there : get_or (series_of bs) p s ≡ s
  there = row (row_in bs) (entries_in bs) p s l ∙ sym e

  inside : p < length (series_of bs)
  inside = rw (length-map-range_with_len (row_in bs) 0 (entries_in bs)) l

  pub member_ready : is_ok (clock_check bs) ≡ true → (k : ℕ) → k < s.count → (s.run + k ≤ 65535) × (s.first + k * s.period ≤ 1439)
  member_ready ok k i =
      let f = subst (Fine (quays_in bs)) (sym e) (fine bs ok p l) in
      (omega (arith, f.last_run), member-day s k i f.last_day)

  pub member_found : (left : ℕ) → left < s.count → get_or (map Some (flat_map members (drop p (series_of bs)))) left None ≡ Some (member s left)
  member_found left i = found_here (series_of bs) p s inside left (rw there i) ∙ ap (λ x. Some (member x left)) there

  pub member_passed : (left : ℕ) → s.count ≤ left → get_or (map Some (flat_map members (drop p (series_of bs)))) left None ≡ get_or (map Some (flat_map members (drop (p + 1) (series_of bs)))) (left - s.count) None
  member_passed left i = passed_here (series_of bs) p s inside left (rw there i) ∙ ap (λ x. get_or (map Some (flat_map members (drop (p + 1) (series_of bs)))) (left - x.count) None) there

  module _ (q n sum : ℕ) (is : n ≡ cond (ltb s.from q) s.count 0) (few : sum ≤ places_to bs (quays_in bs) p) where
    some : n ≤ (row_in bs p).count
    some =
        let few-in : cond (ltb s.from q) s.count 0 ≤ s.count = cond_both (ltb s.from q) s.count 0 (λ k. k ≤ s.count) (λ t. omega arith) (λ t. omega arith) in
        omega (arith, is, few-in, ap (λ x. x.count) e)

    pub sum_fits : is_ok (clock_check bs) ≡ true → sum + n ≤ 3072
    sum_fits ok = omega (arith, some, room bs ok p l)

    pub sum_few : sum + n ≤ places_to bs (quays_in bs) (p + 1)
    sum_few = subst (λ k. sum + n ≤ places_to bs (quays_in bs) k) (sym (add-one p)) (omega (arith, some))

    pub sum_more : sum ≡ below q (flat_map members (map (row_in bs) (range_with_len 0 p))) → sum + n ≡ below q (flat_map members (map (row_in bs) (range_with_len 0 (p + 1))))
    sum_more h =
        let i : n ≡ cond (ltb (row_in bs p).from q) (row_in bs p).count 0 = is ∙ ap (λ x. cond (ltb x.from q) x.count 0) e in
        omega (arith, h, i, below_row bs q p)
