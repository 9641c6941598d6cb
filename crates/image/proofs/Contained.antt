-- An image that passes the check is the bytes of what it holds. Assumes nothing.
use Rattle.std.proofs.Common.{◌≡◌, ℕ, zero, suc, ◌+◌, ◌-◌, ◌<◌, ◌≤◌, List, [], ◌∷◌, ◌++◌, map, length, get_or, take, drop, replicate, sum_by, sym, refl, ap, ◌∙◌, subst, ⊎_elim, append-nil, add-zero, mul-le-mul_right, mul-zero, zero-add, mul-suc, add-one, arith, length-drop, take-append-drop, length-take}
use Rattle.std.specs.List.{range_with_len, flat_map}
use Rattle.std.proofs.lemmas.List.FromFn.{length-map-range_with_len, get_or-map-range_with_len, sum_by-map-range_with_len_more, fill_by_all}
use Rattle.std.proofs.lemmas.List.{drop_more, drop-drop, drop_all, get_or-drop, get_or-take, get_or_past}
use Rattle.std.proofs.lemmas.Bool.{ne_eqb, cases_lt}
use Rattle.timetable.specs.declared.sailing.Sailing.{Sailing}
use Rattle.image.specs.declared.series.Series.{Series}
use Rattle.image.specs.Records.{number_at, quay_start, entry_at, quays_in, entries_in, quay_at, sailing_at, series_at, quays_of, sailings_of, series_of}
use Rattle.image.specs.Checks.{places_to, from_before}
use Rattle.image.specs.Layout.{letters, heading_bytes, quay_bytes, sailing_bytes, series_bytes, layout}
use Rattle.image.specs.Limits.{QuayKept, SailingKept, SeriesKept, Rises, QuaysKept}
use Rattle.image.specs.Images.{PrintedOf, ClockOf}
use Rattle.image.proofs.Good.{Frame, Ends, Rhythm, QuayGood, HeadingGood, ImageGood, PrintedGood, ClockGood}
use Rattle.image.proofs.Cuts.{two_then, rows_then, all_rows}

abbrev pub Small : List ℕ → Type 0
Small bs = (i : ℕ) → get_or bs i 0 < 256

zeros_then : (bs : List ℕ) (at n : ℕ) → at + n ≤ length bs → ((i : ℕ) → i < n → get_or bs (at + i) 0 ≡ 0) → drop at bs ≡ replicate n 0 ++ drop (at + n) bs
zeros_then bs at zero l h = ap (λ k. drop k bs) (sym (add-zero at))
zeros_then bs at (suc n) l h =
    let m : at + 1 + n ≡ at + suc n = omega arith in
    let z : get_or bs at 0 ≡ 0 = ap (λ k. get_or bs k 0) (sym (add-zero at)) ∙ h 0 (omega arith) in
    let r = zeros_then bs (at + 1) n (omega arith) (λ i x. let e : at + 1 + i ≡ at + suc i = omega arith in ap (λ k. get_or bs k 0) e ∙ h (suc i) (omega arith)) in
    let s : drop (at + 1) bs ≡ replicate n 0 ++ drop (at + suc n) bs = r ∙ ap (λ k. replicate n 0 ++ drop k bs) m in
    drop_more bs at 0 (omega arith) ∙ ap (λ x. x ∷ drop (at + 1) bs) z ∙ ap (λ l. 0 ∷ l) s

heading_then : (bs : List ℕ) (kind most : ℕ) → Small bs → HeadingGood bs kind most → bs ≡ heading_bytes kind (quays_in bs) (entries_in bs) ++ drop 16 bs
heading_then bs kind most small h =
    let long : 16 ≤ length bs = h.due.inside in
    two_then bs 0 2 14 _ small refl (omega arith) h.due.length_due
    (two_then bs 2 4 kind _ small refl (omega arith) h.due.kind_due
    (two_then bs 4 6 (quays_in bs) _ small refl (omega arith) refl
    (two_then bs 6 8 (entries_in bs) _ small refl (omega arith) refl
    (zeros_then bs 8 8 (omega arith) h.zeros))))

quay_then : (bs : List ℕ) (q : ℕ) → Small bs → QuayGood bs q → drop (quay_start q) bs ≡ quay_bytes (quay_at bs q) ++ drop (quay_start (q + 1)) bs
quay_then bs q small h =
    let at = quay_start q in
    let long = h.due.inside in
    let ten : length (take 10 (drop (at + 6) bs)) ≡ 10 = simp (length-take, length-drop) (omega arith) in
    let name : drop (at + 6) bs ≡ letters (take 10 (drop (at + 6) bs)) ++ drop (quay_start (q + 1)) bs =
    subst (λ l. drop (at + 6) bs ≡ l ++ drop (quay_start (q + 1)) bs) (fill_by_all (λ i. get_or (take 10 (drop (at + 6) bs)) i 0) (take 10 (drop (at + 6) bs)) 10 0 ten (λ k l. refl))
    (sym (take-append-drop 10 (drop (at + 6) bs)) ∙ ap (λ l. take 10 (drop (at + 6) bs) ++ l) (drop-drop 10 (at + 6) bs ∙ ap (λ k. drop k bs) (omega arith))) in
    two_then bs at (at + 2) 14 _ small refl (omega arith) h.due.length_due
    (two_then bs (at + 2) (at + 4) 3 _ small (omega arith) (omega arith) h.due.kind_due
    (two_then bs (at + 4) (at + 6) (number_at bs (at + 4)) _ small (omega arith) (omega arith) refl name))

sailing_then : (bs : List ℕ) (at next : ℕ) → Small bs → Frame bs at 14 4 → next ≡ at + 16 → drop at bs ≡ sailing_bytes (sailing_at bs at) ++ drop next bs
sailing_then bs at next small h n =
    let long = h.inside in
    two_then bs at (at + 2) 14 _ small refl (omega arith) h.length_due
    (two_then bs (at + 2) (at + 4) 4 _ small (omega arith) (omega arith) h.kind_due
    (two_then bs (at + 4) (at + 6) (number_at bs (at + 4)) _ small (omega arith) (omega arith) refl
    (two_then bs (at + 6) (at + 8) (number_at bs (at + 6)) _ small (omega arith) (omega arith) refl
    (two_then bs (at + 8) (at + 10) (number_at bs (at + 8)) _ small (omega arith) (omega arith) refl
    (two_then bs (at + 10) (at + 12) (number_at bs (at + 10)) _ small (omega arith) (omega arith) refl
    (two_then bs (at + 12) (at + 14) (number_at bs (at + 12)) _ small (omega arith) (omega arith) refl
    (two_then bs (at + 14) next (number_at bs (at + 14)) _ small (omega arith) (omega arith) refl refl)))))))

series_then : (bs : List ℕ) (at next : ℕ) → Small bs → Frame bs at 18 5 → next ≡ at + 20 → drop at bs ≡ series_bytes (series_at bs at) ++ drop next bs
series_then bs at next small h n =
    let long = h.inside in
    two_then bs at (at + 2) 18 _ small refl (omega arith) h.length_due
    (two_then bs (at + 2) (at + 4) 5 _ small (omega arith) (omega arith) h.kind_due
    (two_then bs (at + 4) (at + 6) (number_at bs (at + 4)) _ small (omega arith) (omega arith) refl
    (two_then bs (at + 6) (at + 8) (number_at bs (at + 6)) _ small (omega arith) (omega arith) refl
    (two_then bs (at + 8) (at + 10) (number_at bs (at + 8)) _ small (omega arith) (omega arith) refl
    (two_then bs (at + 10) (at + 12) (number_at bs (at + 10)) _ small (omega arith) (omega arith) refl
    (two_then bs (at + 12) (at + 14) (number_at bs (at + 12)) _ small (omega arith) (omega arith) refl
    (two_then bs (at + 14) (at + 16) (number_at bs (at + 14)) _ small (omega arith) (omega arith) refl
    (two_then bs (at + 16) (at + 18) (number_at bs (at + 16)) _ small (omega arith) (omega arith) refl
    (two_then bs (at + 18) next (number_at bs (at + 18)) _ small (omega arith) (omega arith) refl refl)))))))))

-- the whole image, from its parts
module _ {X : Type 0} (f : X → List ℕ) (bs : List ℕ) (kind most wide : ℕ) (Entry : ℕ → Type 0) (g : ℕ → X) (small : Small bs) (h : ImageGood bs kind most wide Entry) where
  pub whole : ((p : ℕ) → p < entries_in bs → drop (entry_at wide (quays_in bs) p) bs ≡ f (g p) ++ drop (entry_at wide (quays_in bs) (p + 1)) bs) → bs ≡ layout kind f (quays_of bs) (map g (range_with_len 0 (entries_in bs)))
  whole each =
      let n = quays_in bs in
      let m = entries_in bs in
      let a = rows_then quay_bytes bs (quay_at bs) quay_start n 0 (λ i x y. quay_then bs i small (h.quays i (omega arith))) in
      let b = rows_then f bs g (entry_at wide n) m 0 (λ i x y. each i (omega arith)) in
      let start : quay_start (0 + n) ≡ entry_at wide n 0 = omega (arith, mul-zero wide) in
      let last : entry_at wide n (0 + m) ≡ entry_at wide n m = ap (entry_at wide n) (zero-add m) in
      let none : drop (entry_at wide n (0 + m)) bs ≡ [] = ap (λ k. drop k bs) last ∙ drop_all (entry_at wide n m) bs (omega (arith, h.long)) in
      let entries : drop (quay_start (0 + n)) bs ≡ flat_map f (map g (range_with_len 0 m)) = ap (λ k. drop k bs) start ∙ b ∙ ap (λ l. flat_map f (map g (range_with_len 0 m)) ++ l) none ∙ append-nil (flat_map f (map g (range_with_len 0 m))) in
      let tail : drop 16 bs ≡ flat_map quay_bytes (quays_of bs) ++ flat_map f (map g (range_with_len 0 m)) = a ∙ ap (λ l. flat_map quay_bytes (quays_of bs) ++ l) entries in
      heading_then bs kind most small h.head
      ∙ ap (λ l. heading_bytes kind n m ++ l) tail
      ∙ ap (λ k. heading_bytes kind k m ++ (flat_map quay_bytes (quays_of bs) ++ flat_map f (map g (range_with_len 0 m)))) (sym (length-map-range_with_len (quay_at bs) 0 n))
      ∙ ap (λ k. heading_bytes kind (length (quays_of bs)) k ++ (flat_map quay_bytes (quays_of bs) ++ flat_map f (map g (range_with_len 0 m)))) (sym (length-map-range_with_len g 0 m))

  pub quays_in_lem : QuaysKept (quays_of bs)
  quays_in_lem =
      let n = length-map-range_with_len (quay_at bs) 0 (quays_in bs) in
      record {
        some_quay = omega (arith, n, h.head.some_quay);
        few_quays = omega (arith, n, h.head.few_quays);
        quay_kept = all_rows QuayKept (quay_at bs) (quays_in bs) 0 (λ i x y.
            let q = h.quays i (omega arith) in
            let long = q.due.inside in
            let name : (k : ℕ) → k < 10 → get_or (take 10 (drop (quay_start i + 6) bs)) k 0 ≡ get_or bs (quay_start i + 6 + k) 0 = λ k l. get_or-take 10 (drop (quay_start i + 6) bs) k 0 l ∙ get_or-drop (quay_start i + 6) bs k 0 in
            record {
              change_day = q.change_day;
              ten = simp (length-take, length-drop) (omega arith);
              letters_kept = λ k l. (omega (arith, name k l, q.name_low k l), omega (arith, name k l, q.name_high k l));
            });
      }

pub small_take : (bs : List ℕ) (n : ℕ) → Small bs → Small (take n bs)
small_take bs n small i =
    ⊎_elim
    (λ l. omega (arith, get_or-take n bs i 0 l, small i))
    (λ l. let m : length (take n bs) ≤ i = omega (arith, length-take n bs) in omega (arith, get_or_past (take n bs) i 0 m))
    (cases_lt i n)

pub row : {X : Type 0} (g : ℕ → X) (n i : ℕ) (d : X) → i < n → get_or (map g (range_with_len 0 n)) i d ≡ g i
row g n i d l = get_or-map-range_with_len g 0 n i i d l (zero-add i)

-- the from of the entry before is that of the row before
before_is : (bs : List ℕ) (wide quays i : ℕ) → 8 ≤ wide → from_before bs (i + 1) (entry_at wide quays (i + 1)) wide ≡ number_at bs (entry_at wide quays i + 8)
before_is bs wide quays i w =
    let e : entry_at wide quays (i + 1) + 8 - wide ≡ entry_at wide quays i + 8 = rw add-one (omega (arith, mul-suc wide i)) in
    rw (ne_eqb (i + 1) 0 (λ z. omega arith)) (ap (number_at bs) e)

pub rises_in : {X : Type 0} (bs : List ℕ) (wide : ℕ) (g : ℕ → X) (from : X → ℕ) (n quays : ℕ) → 8 ≤ wide → ((i : ℕ) → from (g i) ≡ number_at bs (entry_at wide quays i + 8)) → ((i : ℕ) → i < n → Ends bs quays i (entry_at wide quays i) wide) → Rises from (map g (range_with_len 0 n))
rises_in bs wide g from n quays w is h i d l =
    let m = length-map-range_with_len g 0 n in
    let a = row g n i d (omega (arith, m)) in
    let b = row g n (i + 1) d (omega (arith, m)) in
    let up = (h (i + 1) (omega (arith, m))).rises in
    omega (arith, ap from a, ap from b, is i, is (i + 1), up, before_is bs wide quays i w)

number_fits : (bs : List ℕ) → Small bs → (at : ℕ) → number_at bs at ≤ 65535
number_fits bs small at = omega (arith, small at, small (at + 1))

pub printed_content : (bs : List ℕ) → Small bs → PrintedGood bs → PrintedOf bs
printed_content bs small h =
    let n = quays_in bs in
    let at : ℕ → ℕ = entry_at 16 n in
    let g : ℕ → Sailing = λ p. sailing_at bs (at p) in
    record {
      quays = quays_of bs;
      sailings = sailings_of bs;
      kept = record {
        quays_kept = quays_in_lem sailing_bytes bs 1 3072 16 _ g small h;
        few_sailings = omega (arith, length-map-range_with_len g 0 (entries_in bs), h.head.few_entries);
        sailing_kept = rw (length-map-range_with_len (quay_at bs) 0 n) (all_rows (SailingKept n) g (entries_in bs) 0 (λ i x y.
            let s = h.entries i (omega arith) in
            record { run_number = number_fits bs small (at i + 4); leg_number = number_fits bs small (at i + 6); from_quay = s.quays_good.from_quay; to_quay = s.quays_good.to_quay; apart = s.quays_good.apart; dep_day = s.dep_day; arr_day = s.arr_day }));
        from_rises = rises_in bs 16 g (λ s. s.from) (entries_in bs) n (omega arith) (λ i. refl) (λ i l. (h.entries i l).quays_good);
      };
      laid = whole sailing_bytes bs 1 3072 16 _ g small h (λ p l. sailing_then bs (at p) (at (p + 1)) small (h.entries p l).due (omega arith));
    }

pub content_quays : (bs : List ℕ) (small : Small bs) (h : PrintedGood bs) → (printed_content bs small h).quays ≡ quays_of bs
unfolding printed_content
content_quays bs small h = refl

pub content_sailings : (bs : List ℕ) (small : Small bs) (h : PrintedGood bs) → (printed_content bs small h).sailings ≡ sailings_of bs
unfolding printed_content
content_sailings bs small h = refl

pub places_are : (bs : List ℕ) (quays n : ℕ) → places_to bs quays n ≡ sum_by (λ s. s.count) (map (λ p. series_at bs (entry_at 20 quays p)) (range_with_len 0 n))
places_are bs quays zero = refl
places_are bs quays (suc n) =
    let r = places_are bs quays n in
    let m = sum_by-map-range_with_len_more (λ s. s.count) (λ p. series_at bs (entry_at 20 quays p)) 0 n n (zero-add n) in
    omega (arith, r, rw add-one at m)

pub places_fit : (bs : List ℕ) (quays n : ℕ) → ((i : ℕ) → i < n → Rhythm bs (entry_at 20 quays i) (places_to bs quays i)) → places_to bs quays n ≤ 3072
places_fit bs quays zero h = omega arith
places_fit bs quays (suc n) h = (h n (omega arith)).last_place

pub clock_content : (bs : List ℕ) → Small bs → ClockGood bs → ClockOf bs
clock_content bs small h =
    let n = quays_in bs in
    let at : ℕ → ℕ = entry_at 20 n in
    let g : ℕ → Series = λ p. series_at bs (at p) in
    record {
      quays = quays_of bs;
      series = series_of bs;
      kept = record {
        quays_kept = quays_in_lem series_bytes bs 2 512 20 _ g small h;
        few_series = omega (arith, length-map-range_with_len g 0 (entries_in bs), h.head.few_entries);
        series_kept = rw (length-map-range_with_len (quay_at bs) 0 n) (all_rows (SeriesKept n) g (entries_in bs) 0 (λ i x y.
            let s = h.entries i (omega arith) in
            let r = s.rhythm_kept in
            record {
              leg_number = number_fits bs small (at i + 6);
              from_quay = s.quays_good.from_quay;
              to_quay = s.quays_good.to_quay;
              apart = s.quays_good.apart;
              first_day = r.first_day;
              some_period = r.some_period;
              period_day = r.period_day;
              some_count = r.some_count;
              count_day = r.count_day;
              members_kept = λ k l.
                  let le : k ≤ number_at bs (at i + 16) - 1 = omega arith in
                  (omega (arith, r.last_day, mul-le-mul_right (number_at bs (at i + 14)) le), omega (arith, r.last_run));
              length_day = r.length_day;
            }));
        from_rises = rises_in bs 20 g (λ s. s.from) (entries_in bs) n (omega arith) (λ i. refl) (λ i l. (h.entries i l).quays_good);
        few_places = rw (← places_are bs n (entries_in bs)) (places_fit bs n (entries_in bs) (λ i l. (h.entries i l).rhythm_kept));
      };
      laid = whole series_bytes bs 2 512 20 _ g small h (λ p l. series_then bs (at p) (at (p + 1)) small (h.entries p l).due (omega arith));
    }
