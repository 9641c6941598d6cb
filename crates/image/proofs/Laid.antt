-- The bytes of a content within the limits hold that content, and pass the check. Assumes nothing.
use Rattle.std.proofs.Common.{◌≡◌, ℕ, zero, suc, ◌+◌, ◌-◌, ◌*◌, ◌<◌, ◌≤◌, List, [], ◌∷◌, ◌++◌, length, get_or, take, drop, replicate, sum_by, sym, refl, ap, ◌∙◌, append-nil, zero-add, mul-suc, add-one, arith, length-append}
use lib.ListN.{get_or-replicate}
use Rattle.std.specs.List.{flat_map, AllByRecursion as All}
use Rattle.std.proofs.lemmas.List.FromFn.{get_or-map-range_with_len, fill_by_all}
use Rattle.std.proofs.ByRecursion.{All-get_or}
use Rattle.std.proofs.lemmas.List.{get_or-drop, get_or_append_left, take_at}
use Rattle.std.proofs.lemmas.List.Sums.{sum_by_more, sum_by-take-le}
use Rattle.std.proofs.lemmas.Bool.{ne_eqb}
use Rattle.image.specs.declared.quay.Quay.{Quay}
use Rattle.timetable.specs.declared.sailing.Sailing.{Sailing}
use Rattle.image.specs.declared.series.Series.{Series}
use Rattle.image.specs.Records.{number_at, quay_start, entry_at, quays_in, entries_in, quay_at, sailing_at, series_at}
use Rattle.image.specs.Checks.{places_to, from_before}
use Rattle.image.specs.Layout.{letters, heading_bytes, quay_bytes, sailing_bytes, series_bytes, layout}
use Rattle.image.specs.Limits.{QuayKept, SailingKept, SeriesKept, Rises, QuaysKept}
use Rattle.image.specs.Images.{PrintedOf, ClockOf}
use Rattle.image.proofs.Good.{Frame, QuayGood, HeadingGood, PrintedGood, ClockGood}
use Rattle.image.proofs.Cuts.{read, row_in, length_joined}

-- where the parts of a layout stand
pub record Laid {X : Type 0} (f : X → List ℕ) (kind wide : ℕ) (quays : List Quay) (entries : List X) (bs : List ℕ) : Type 0 where
  pub due : Frame bs 0 14 kind
  pub quays_number : quays_in bs ≡ length quays
  pub entries_number : entries_in bs ≡ length entries
  pub zeros : (i : ℕ) → i < 8 → get_or bs (8 + i) 0 ≡ 0
  pub quay_there : (q : ℕ) (d : Quay) → q < length quays → (rest : List ℕ) × (drop (quay_start q) bs ≡ quay_bytes (get_or quays q d) ++ rest)
  pub entry_there : (p : ℕ) (d : X) → p < length entries → (rest : List ℕ) × (drop (entry_at wide (length quays) p) bs ≡ f (get_or entries p d) ++ rest)
  pub long : length bs ≡ entry_at wide (length quays) (length entries)

pub all_sized : {X : Type 0} (f : X → List ℕ) (w : ℕ) → ((x : X) → length (f x) ≡ w) → (xs : List X) → All (λ x. length (f x) ≡ w) xs
all_sized f w h [] = tt
all_sized f w h (x ∷ xs) = (h x, all_sized f w h xs)

module _ {X : Type 0} (f : X → List ℕ) (kind wide : ℕ) (quays : List Quay) (entries : List X) (sized : All (λ x. length (f x) ≡ wide) entries) where
  pub laid : (bs : List ℕ) → bs ≡ layout kind f quays entries → Laid f kind wide quays entries bs
  laid bs e =
      let n = length quays in
      let m = length entries in
      let front = heading_bytes kind n m in
      let body = flat_map quay_bytes quays ++ flat_map f entries in
      let wides = all_sized quay_bytes 16 (λ q. refl) quays in
      let quays-long = length_joined quay_bytes 16 quays wides in
      let entries-long = length_joined f wide entries sized in
      let all-long : length bs ≡ entry_at wide n m = ap length e ∙ omega (arith, length-append (flat_map quay_bytes quays) (flat_map f entries), quays-long, entries-long) in
      let r0 = read bs 0 2 14 _ refl e in
      let r1 = read bs 2 4 kind _ refl r0.1 in
      let r2 = read bs 4 6 n _ refl r1.1 in
      let r3 = read bs 6 8 m (replicate 8 0 ++ body) refl r2.1 in
      record {
        due = record { inside = omega (arith, all-long); length_due = r0.0; kind_due = r1.0 };
        quays_number = r2.0;
        entries_number = r3.0;
        zeros = λ i l. sym (get_or-drop 8 bs i 0) ∙ ap (λ l. get_or l i 0) r3.1 ∙ get_or_append_left (replicate 8 0) body 0 i l ∙ get_or-replicate 8 i 0 0 l;
        quay_there = λ q d l.
            let r = row_in quay_bytes 16 front (flat_map f entries) 16 quays q d refl wides l in
            let at : quay_start q ≡ 16 + 16 * q = omega arith in
            (r.0, ap (drop (quay_start q)) e ∙ ap (λ k. drop k (front ++ body)) at ∙ r.1);
        entry_there = λ p d l.
            let pre = front ++ flat_map quay_bytes quays in
            let r = row_in f wide pre [] (16 * (1 + n)) entries p d (omega (arith, quays-long)) sized l in
            let t : front ++ body ≡ pre ++ (flat_map f entries ++ []) = ap (λ l. pre ++ l) (sym (append-nil (flat_map f entries))) in
            (r.0, ap (drop (entry_at wide n p)) (e ∙ t) ∙ r.1);
        long = all-long;
      }

-- a record read back
pub record SailingRead (bs : List ℕ) (at : ℕ) (s : Sailing) : Type 0 where
  pub length_due : number_at bs at ≡ 14
  pub kind_due : number_at bs (at + 2) ≡ 4
  pub is : sailing_at bs at ≡ s

pub sailing_read : (bs : List ℕ) (at : ℕ) (s : Sailing) (rest : List ℕ) → drop at bs ≡ sailing_bytes s ++ rest → SailingRead bs at s
sailing_read bs at s rest e =
    let r0 = read bs at (at + 2) 14 _ refl e in
    let r1 = read bs (at + 2) (at + 4) 4 _ (omega arith) r0.1 in
    let r2 = read bs (at + 4) (at + 6) s.run _ (omega arith) r1.1 in
    let r3 = read bs (at + 6) (at + 8) s.leg _ (omega arith) r2.1 in
    let r4 = read bs (at + 8) (at + 10) s.from _ (omega arith) r3.1 in
    let r5 = read bs (at + 10) (at + 12) s.to _ (omega arith) r4.1 in
    let r6 = read bs (at + 12) (at + 14) s.dep _ (omega arith) r5.1 in
    let r7 = read bs (at + 14) (at + 16) s.arr _ (omega arith) r6.1 in
    record { length_due = r0.0; kind_due = r1.0; is = rw (r2.0, r3.0, r4.0, r5.0, r6.0, r7.0) }

pub record SeriesRead (bs : List ℕ) (at : ℕ) (s : Series) : Type 0 where
  pub length_due : number_at bs at ≡ 18
  pub kind_due : number_at bs (at + 2) ≡ 5
  pub is : series_at bs at ≡ s

pub series_read : (bs : List ℕ) (at : ℕ) (s : Series) (rest : List ℕ) → drop at bs ≡ series_bytes s ++ rest → SeriesRead bs at s
series_read bs at s rest e =
    let r0 = read bs at (at + 2) 18 _ refl e in
    let r1 = read bs (at + 2) (at + 4) 5 _ (omega arith) r0.1 in
    let r2 = read bs (at + 4) (at + 6) s.run _ (omega arith) r1.1 in
    let r3 = read bs (at + 6) (at + 8) s.leg _ (omega arith) r2.1 in
    let r4 = read bs (at + 8) (at + 10) s.from _ (omega arith) r3.1 in
    let r5 = read bs (at + 10) (at + 12) s.to _ (omega arith) r4.1 in
    let r6 = read bs (at + 12) (at + 14) s.first _ (omega arith) r5.1 in
    let r7 = read bs (at + 14) (at + 16) s.period _ (omega arith) r6.1 in
    let r8 = read bs (at + 16) (at + 18) s.count _ (omega arith) r7.1 in
    let r9 = read bs (at + 18) (at + 20) s.length _ (omega arith) r8.1 in
    record { length_due = r0.0; kind_due = r1.0; is = rw (r2.0, r3.0, r4.0, r5.0, r6.0, r7.0, r8.0, r9.0) }

pub record QuayRead (bs : List ℕ) (q : ℕ) (x : Quay) : Type 0 where
  pub length_due : number_at bs (quay_start q) ≡ 14
  pub kind_due : number_at bs (quay_start q + 2) ≡ 3
  pub change_is : number_at bs (quay_start q + 4) ≡ x.change
  pub letter_is_lem : (i : ℕ) → i < 10 → get_or bs (quay_start q + 6 + i) 0 ≡ get_or x.name i 0
  pub name_is : take 10 (drop (quay_start q + 6) bs) ≡ letters x.name

pub quay_read : (bs : List ℕ) (q : ℕ) (x : Quay) (rest : List ℕ) → drop (quay_start q) bs ≡ quay_bytes x ++ rest → QuayRead bs q x
quay_read bs q x rest e =
    let at = quay_start q in
    let r0 = read bs at (at + 2) 14 _ refl e in
    let r1 = read bs (at + 2) (at + 4) 3 _ (omega arith) r0.1 in
    let r2 = read bs (at + 4) (at + 6) x.change (letters x.name ++ rest) (omega arith) r1.1 in
    record {
      length_due = r0.0;
      kind_due = r1.0;
      change_is = r2.0;
      letter_is_lem = λ i l. sym (get_or-drop (at + 6) bs i 0) ∙ ap (λ l. get_or l i 0) r2.1 ∙ get_or_append_left (letters x.name) rest 0 i l ∙ get_or-map-range_with_len (λ i. get_or x.name i 0) 0 10 i i 0 l (zero-add i);
      name_is = ap (take 10) r2.1 ∙ take_at (letters x.name) rest 10 refl;
    }

-- a quay within the limits is read back whole
pub quay-whole : (bs : List ℕ) (q : ℕ) (x : Quay) → length x.name ≡ 10 → QuayRead bs q x → quay_at bs q ≡ x
quay-whole bs q x ten r =
    let name : take 10 (drop (quay_start q + 6) bs) ≡ x.name = r.name_is ∙ sym (fill_by_all (λ i. get_or x.name i 0) x.name 10 0 ten (λ k l. refl)) in
    rw (r.change_is, name)

module _ {X : Type 0} (f : X → List ℕ) (kind wide : ℕ) (quays : List Quay) (entries : List X) (kept : QuaysKept quays) (bs : List ℕ) (l : Laid f kind wide quays entries bs) where
  pub quay-held : (q : ℕ) (d : Quay) → q < length quays → QuayRead bs q (get_or quays q d)
  quay-held q d i = let r = l.quay_there q d i in quay_read bs q (get_or quays q d) r.0 r.1

  pub heading-held : (most : ℕ) → length entries ≤ most → HeadingGood bs kind most
  heading-held most few = record { due = l.due; some_quay = omega (arith, l.quays_number, kept.some_quay); few_quays = omega (arith, l.quays_number, kept.few_quays); few_entries = omega (arith, l.entries_number); zeros = l.zeros }

  pub quays_held : (d : Quay) (q : ℕ) → q < quays_in bs → QuayGood bs q
  quays_held d q i =
      let j : q < length quays = omega (arith, l.quays_number) in
      let r = quay-held q d j in
      let k = All-get_or QuayKept quays q d j kept.quay_kept in
      record {
        due = record { inside = omega (arith, l.long, j); length_due = r.length_due; kind_due = r.kind_due };
        change_day = omega (arith, r.change_is, k.change_day);
        name_low = λ i l. omega (arith, r.letter_is_lem i l, (k.letters_kept i l).0);
        name_high = λ i l. omega (arith, r.letter_is_lem i l, (k.letters_kept i l).1);
      }

-- the from of the entry before, where each entry tells its own
pub before-held : {X : Type 0} (bs : List ℕ) (wide quays : ℕ) (from : X → ℕ) (xs : List X) (d : X) → 8 ≤ wide → ((i : ℕ) → i < length xs → number_at bs (entry_at wide quays i + 8) ≡ from (get_or xs i d)) → Rises from xs → (i : ℕ) → i < length xs → from_before bs i (entry_at wide quays i) wide ≤ number_at bs (entry_at wide quays i + 8)
before-held bs wide quays from xs d w is up zero l = omega arith
before-held bs wide quays from xs d w is up (suc i) l =
    let e : entry_at wide quays (suc i) + 8 - wide ≡ entry_at wide quays i + 8 = omega (arith, mul-suc wide i) in
    let a = is i (omega arith) in
    let b = is (suc i) l in
    let c = rw add-one at (up i d (omega arith)) in
    rw (ne_eqb (suc i) 0 (λ z. omega arith), e) (omega (arith, a, b, c))

no_sailing : Sailing
no_sailing = record { run = 0; leg = 0; from = 0; to = 0; dep = 0; arr = 0 }

no_quay : Quay
no_quay = record { change = 0; name = [] }

no_series : Series
no_series = record { run = 0; leg = 0; from = 0; to = 0; first = 0; period = 0; count = 0; length = 0 }

pub printed_laid : (quays : List Quay) (sailings : List Sailing) (bs : List ℕ) → bs ≡ layout 1 sailing_bytes quays sailings → Laid sailing_bytes 1 16 quays sailings bs
printed_laid quays sailings bs e = laid sailing_bytes 1 16 quays sailings (all_sized sailing_bytes 16 (λ x. refl) sailings) bs e

pub clock_laid : (quays : List Quay) (series : List Series) (bs : List ℕ) → bs ≡ layout 2 series_bytes quays series → Laid series_bytes 2 20 quays series bs
clock_laid quays series bs e = laid series_bytes 2 20 quays series (all_sized series_bytes 20 (λ x. refl) series) bs e

pub printed-held : (bs : List ℕ) → PrintedOf bs → PrintedGood bs
printed-held bs c =
    let quays = c.quays in
    let xs = c.sailings in
    let k = c.kept in
    let n = length quays in
    let l = printed_laid quays xs bs c.laid in
    let at : ℕ → ℕ = entry_at 16 n in
    let has : (p : ℕ) → p < length xs → SailingRead bs (at p) (get_or xs p no_sailing) = λ p i. let r = l.entry_there p no_sailing i in sailing_read bs (at p) _ r.0 r.1 in
    record {
      head = heading-held sailing_bytes 1 16 quays xs k.quays_kept bs l 3072 k.few_sailings;
      quays = quays_held sailing_bytes 1 16 quays xs k.quays_kept bs l no_quay;
      entries = rw l.quays_number (λ p i.
          let j : p < length xs = omega (arith, l.entries_number) in
          let r = has p j in
          let s = All-get_or (SailingKept n) xs p no_sailing j k.sailing_kept in
          let e = r.is in
          record {
            due = record { inside = omega (arith, l.long, j); length_due = r.length_due; kind_due = r.kind_due };
            quays_good = record {
              from_quay = omega (arith, ap (λ x. x.from) e, s.from_quay);
              rises = before-held bs 16 n (λ s. s.from) xs no_sailing (omega arith) (λ i l. ap (λ x. x.from) (has i l).is) k.from_rises p j;
              to_quay = omega (arith, ap (λ x. x.to) e, s.to_quay);
              apart = λ q. s.apart (sym (ap (λ x. x.to) e) ∙ q ∙ ap (λ x. x.from) e);
            };
            dep_day = omega (arith, ap (λ x. x.dep) e, s.dep_day);
            arr_day = omega (arith, ap (λ x. x.arr) e, s.arr_day);
          });
      long = rw (l.quays_number, l.entries_number) l.long;
    }

places_held : (bs : List ℕ) (quays : ℕ) (xs : List Series) → ((i : ℕ) → i < length xs → number_at bs (entry_at 20 quays i + 16) ≡ (get_or xs i no_series).count) → (n : ℕ) → n ≤ length xs → places_to bs quays n ≡ sum_by (λ s. s.count) (take n xs)
places_held bs quays xs is zero l = refl
places_held bs quays xs is (suc n) l =
    let r = places_held bs quays xs is n (omega arith) in
    let m = rw add-one at (sum_by_more (λ s. s.count) xs n no_series (omega arith)) in
    omega (arith, r, m, is n (omega arith))

pub clock_held : (bs : List ℕ) → ClockOf bs → ClockGood bs
clock_held bs c =
    let quays = c.quays in
    let xs = c.series in
    let k = c.kept in
    let n = length quays in
    let l = clock_laid quays xs bs c.laid in
    let at : ℕ → ℕ = entry_at 20 n in
    let has : (p : ℕ) → p < length xs → SeriesRead bs (at p) (get_or xs p no_series) = λ p i. let r = l.entry_there p no_series i in series_read bs (at p) _ r.0 r.1 in
    let places = places_held bs n xs (λ i l. ap (λ x. x.count) (has i l).is) in
    record {
      head = heading-held series_bytes 2 20 quays xs k.quays_kept bs l 512 k.few_series;
      quays = quays_held series_bytes 2 20 quays xs k.quays_kept bs l no_quay;
      entries = rw l.quays_number (λ p i.
          let j : p < length xs = omega (arith, l.entries_number) in
          let r = has p j in
          let x = get_or xs p no_series in
          let s = All-get_or (SeriesKept n) xs p no_series j k.series_kept in
          let e = r.is in
          let last = s.members_kept (x.count - 1) (omega (arith, s.some_count)) in
          let more = places (p + 1) (omega arith) in
          let room : places_to bs n (p + 1) ≤ 3072 = omega (arith, more, sum_by-take-le (λ s. s.count) xs (p + 1), k.few_places) in
          record {
            due = record { inside = omega (arith, l.long, j); length_due = r.length_due; kind_due = r.kind_due };
            quays_good = record {
              from_quay = omega (arith, ap (λ x. x.from) e, s.from_quay);
              rises = before-held bs 20 n (λ s. s.from) xs no_series (omega arith) (λ i l. ap (λ x. x.from) (has i l).is) k.from_rises p j;
              to_quay = omega (arith, ap (λ x. x.to) e, s.to_quay);
              apart = λ q. s.apart (sym (ap (λ x. x.to) e) ∙ q ∙ ap (λ x. x.from) e);
            };
            rhythm_kept = record {
              first_day = omega (arith, ap (λ x. x.first) e, s.first_day);
              some_period = omega (arith, ap (λ x. x.period) e, s.some_period);
              period_day = omega (arith, ap (λ x. x.period) e, s.period_day);
              some_count = omega (arith, ap (λ x. x.count) e, s.some_count);
              count_day = omega (arith, ap (λ x. x.count) e, s.count_day);
              last_day = let E = ap (λ x. x.first + (x.count - 1) * x.period) e in omega (arith, E, last.0);
              last_run = omega (arith, ap (λ x. x.run) e, ap (λ x. x.count) e, last.1, s.some_count);
              last_place = rw add-one at room;
              length_day = omega (arith, ap (λ x. x.length) e, s.length_day);
            };
          });
      long = rw (l.quays_number, l.entries_number) l.long;
    }
