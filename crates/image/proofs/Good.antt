-- What a record that passes the check holds. Assumes nothing.
use Rattle.std.proofs.Common.{◌≡◌, ℕ, ◌+◌, ◌-◌, ◌*◌, ◌<◌, ◌≤◌, ◌&&◌, leb, List, length, get_or, Ok, add-one, arith}
use Rattle.std.proofs.lemmas.Bool.{lt-ltb, le-leb, eq-eqb, ne_eqb}
use Rattle.std.proofs.lemmas.Bool.Decides.{nat_tests}
use Rattle.image.specs.declared.fault.Part.{Part}
use Rattle.image.specs.declared.fault.Part.TheVariants.{Entries, Quays, Heading}
use Rattle.image.specs.Checks.{unless, up_to, heading, zero_byte, quay, quay_head, name_byte, frame, ends, from_before, sailing, rhythm, counts, places_to, series, ending, printed_check, clock_check}
use Rattle.image.specs.Records.{number_at, quay_start, entry_at, quays_in, entries_in}
use Rattle.image.proofs.Walks.{both_ok, up_to_all, up_to_each}

pub record Frame (bs : List ℕ) (at long kind : ℕ) : Type 0 where
  pub inside : at + (2 + long) ≤ length bs
  pub length_due : number_at bs at ≡ long
  pub kind_due : number_at bs (at + 2) ≡ kind

pub frame_good : (bs : List ℕ) (at long kind : ℕ) (p : Part) (n : ℕ) → frame bs at long kind p n ≡ Ok tt → Frame bs at long kind
frame_good bs at long kind p n h = record { inside = grind (arith, nat_tests, h); length_due = grind (arith, nat_tests, h); kind_due = grind (arith, nat_tests, h) }

pub frame_right : (bs : List ℕ) (at long kind : ℕ) (p : Part) (n : ℕ) → Frame bs at long kind → frame bs at long kind p n ≡ Ok tt
frame_right bs at long kind p n h = rw (le-leb (at + (2 + long)) (length bs) h.inside, eq-eqb (number_at bs at) long h.length_due, eq-eqb (number_at bs (at + 2)) kind h.kind_due)

pub record Ends (bs : List ℕ) (quays row at wide : ℕ) : Type 0 where
  pub from_quay : number_at bs (at + 8) < quays
  pub rises : from_before bs row at wide ≤ number_at bs (at + 8)
  pub to_quay : number_at bs (at + 10) < quays
  pub apart : number_at bs (at + 10) ≡ number_at bs (at + 8) → ⊥

pub ends_good : (bs : List ℕ) (quays row at wide : ℕ) → ends bs quays row at wide ≡ Ok tt → Ends bs quays row at wide
ends_good bs quays row at wide h = record {
  from_quay = grind (arith, nat_tests, h);
  rises = grind (arith, nat_tests, h);
  to_quay = grind (arith, nat_tests, h);
  apart = λ e. grind (arith, nat_tests, h, e);
}

pub ends-right : (bs : List ℕ) (quays row at wide : ℕ) → Ends bs quays row at wide → ends bs quays row at wide ≡ Ok tt
ends-right bs quays row at wide h =
    rw (lt-ltb (number_at bs (at + 8)) quays h.from_quay, le-leb (from_before bs row at wide) (number_at bs (at + 8)) h.rises, lt-ltb (number_at bs (at + 10)) quays h.to_quay, ne_eqb (number_at bs (at + 10)) (number_at bs (at + 8)) h.apart)

pub record Rhythm (bs : List ℕ) (at before : ℕ) : Type 0 where
  pub first_day : number_at bs (at + 12) ≤ 1439
  pub some_period : 1 ≤ number_at bs (at + 14)
  pub period_day : number_at bs (at + 14) ≤ 1439
  pub some_count : 1 ≤ number_at bs (at + 16)
  pub count_day : number_at bs (at + 16) ≤ 1440
  pub last_day : number_at bs (at + 12) + (number_at bs (at + 16) - 1) * number_at bs (at + 14) ≤ 1439
  pub last_run : number_at bs (at + 4) + number_at bs (at + 16) ≤ 65536
  pub last_place : before + number_at bs (at + 16) ≤ 3072
  pub length_day : number_at bs (at + 18) ≤ 1439

pub rhythm_good : (bs : List ℕ) (row at before : ℕ) → rhythm bs row at ≡ Ok tt → counts bs row at before ≡ Ok tt → Rhythm bs at before
rhythm_good bs row at before h m = record {
  first_day = grind (arith, nat_tests, h);
  some_period = grind (arith, nat_tests, h);
  period_day = grind (arith, nat_tests, h);
  some_count = grind (arith, nat_tests, m);
  count_day = grind (arith, nat_tests, m);
  last_day = grind (arith, nat_tests, m);
  last_run = grind (arith, nat_tests, m);
  last_place = grind (arith, nat_tests, m);
  length_day = grind (arith, nat_tests, m);
}

pub rhythm-right : (bs : List ℕ) (row at before : ℕ) → Rhythm bs at before → rhythm bs row at ≡ Ok tt
rhythm-right bs row at before h = rw (le-leb (number_at bs (at + 12)) 1439 h.first_day, le-leb 1 (number_at bs (at + 14)) h.some_period, le-leb (number_at bs (at + 14)) 1439 h.period_day)

pub counts-right : (bs : List ℕ) (row at before : ℕ) → Rhythm bs at before → counts bs row at before ≡ Ok tt
counts-right bs row at before h =
    rw (
      le-leb 1 (number_at bs (at + 16)) h.some_count,
      le-leb (number_at bs (at + 16)) 1440 h.count_day,
      le-leb (number_at bs (at + 12) + (number_at bs (at + 16) - 1) * number_at bs (at + 14)) 1439 h.last_day,
      le-leb (number_at bs (at + 4) + number_at bs (at + 16)) 65536 h.last_run,
      le-leb (before + number_at bs (at + 16)) 3072 h.last_place,
      le-leb (number_at bs (at + 18)) 1439 h.length_day,
    )

pub record SailingGood (bs : List ℕ) (quays row at : ℕ) : Type 0 where
  pub due : Frame bs at 14 4
  pub quays_good : Ends bs quays row at 16
  pub dep_day : number_at bs (at + 12) ≤ 1439
  pub arr_day : number_at bs (at + 14) ≤ 1439

pub sailing_good : (bs : List ℕ) (quays row : ℕ) → sailing bs quays row ≡ Ok tt → SailingGood bs quays row (entry_at 16 quays row)
sailing_good bs quays row h =
    let at = entry_at 16 quays row in
    let a = both_ok (frame bs at 14 4 Entries row) _ h in
    let b = both_ok (ends bs quays row at 16) _ a.1 in
    let m = b.1 in
    record { due = frame_good bs at 14 4 Entries row a.0; quays_good = ends_good bs quays row at 16 b.0; dep_day = grind (arith, nat_tests, m); arr_day = grind (arith, nat_tests, m) }

pub sailing-right : (bs : List ℕ) (quays row : ℕ) → SailingGood bs quays row (entry_at 16 quays row) → sailing bs quays row ≡ Ok tt
sailing-right bs quays row h =
    let at = entry_at 16 quays row in
    rw (frame_right bs at 14 4 Entries row h.due, ends-right bs quays row at 16 h.quays_good, le-leb (number_at bs (at + 12)) 1439 h.dep_day, le-leb (number_at bs (at + 14)) 1439 h.arr_day)

pub record SeriesGood (bs : List ℕ) (quays row at : ℕ) : Type 0 where
  pub due : Frame bs at 18 5
  pub quays_good : Ends bs quays row at 20
  pub rhythm_kept : Rhythm bs at (places_to bs quays row)

pub series_good : (bs : List ℕ) (quays row : ℕ) → series bs quays row ≡ Ok tt → SeriesGood bs quays row (entry_at 20 quays row)
series_good bs quays row h =
    let at = entry_at 20 quays row in
    let a = both_ok (frame bs at 18 5 Entries row) _ h in
    let b = both_ok (ends bs quays row at 20) _ a.1 in
    let d = both_ok (rhythm bs row at) _ b.1 in
    record { due = frame_good bs at 18 5 Entries row a.0; quays_good = ends_good bs quays row at 20 b.0; rhythm_kept = rhythm_good bs row at (places_to bs quays row) d.0 d.1 }

pub series-right : (bs : List ℕ) (quays row : ℕ) → SeriesGood bs quays row (entry_at 20 quays row) → series bs quays row ≡ Ok tt
series-right bs quays row h =
    let at = entry_at 20 quays row in
    rw (frame_right bs at 18 5 Entries row h.due, ends-right bs quays row at 20 h.quays_good, rhythm-right bs row at _ h.rhythm_kept, counts-right bs row at (places_to bs quays row) h.rhythm_kept)

pub series_inside : (bs : List ℕ) (quays row : ℕ) → series bs quays row ≡ Ok tt → entry_at 20 quays row + 20 ≤ length bs
series_inside bs quays row h = (series_good bs quays row h).due.inside

pub series_room : (bs : List ℕ) (quays row : ℕ) → series bs quays row ≡ Ok tt → places_to bs quays row + number_at bs (entry_at 20 quays row + 16) ≤ 3072
series_room bs quays row h = (series_good bs quays row h).rhythm_kept.last_place

pub places_more : (bs : List ℕ) (quays row places n : ℕ) → places ≡ places_to bs quays row → n ≡ number_at bs (entry_at 20 quays row + 16) → places + n ≡ places_to bs quays (row + 1)
places_more bs quays row places n h e = rw add-one (rw (h, e))

pub record QuayGood (bs : List ℕ) (row : ℕ) : Type 0 where
  pub due : Frame bs (quay_start row) 14 3
  pub change_day : number_at bs (quay_start row + 4) ≤ 1439
  pub name_low : (i : ℕ) → i < 10 → 32 ≤ get_or bs (quay_start row + 6 + i) 0
  pub name_high : (i : ℕ) → i < 10 → get_or bs (quay_start row + 6 + i) 0 ≤ 126

pub quay_good : (bs : List ℕ) (row : ℕ) → quay bs row ≡ Ok tt → QuayGood bs row
quay_good bs row h =
    let a = both_ok (quay_head bs row) _ h in
    let b = both_ok (frame bs (quay_start row) 14 3 Quays row) _ a.0 in
    let m = b.1 in
    record {
      due = frame_good bs (quay_start row) 14 3 Quays row b.0;
      change_day = grind (arith, nat_tests, m);
      name_low = λ i l. let e = up_to_each (name_byte bs row) 10 a.1 i l in grind (arith, nat_tests, e);
      name_high = λ i l. let e = up_to_each (name_byte bs row) 10 a.1 i l in grind (arith, nat_tests, e);
    }

pub quay-right : (bs : List ℕ) (row : ℕ) → QuayGood bs row → quay bs row ≡ Ok tt
quay-right bs row h =
    let name = up_to_all (name_byte bs row) 10 (λ i l. rw (le-leb 32 (get_or bs (quay_start row + 6 + i) 0) (h.name_low i l), le-leb (get_or bs (quay_start row + 6 + i) 0) 126 (h.name_high i l))) in
    rw (frame_right bs (quay_start row) 14 3 Quays row h.due, le-leb (number_at bs (quay_start row + 4)) 1439 h.change_day) name

pub record HeadingGood (bs : List ℕ) (kind most : ℕ) : Type 0 where
  pub due : Frame bs 0 14 kind
  pub some_quay : 1 ≤ quays_in bs
  pub few_quays : quays_in bs ≤ 256
  pub few_entries : entries_in bs ≤ most
  pub zeros : (i : ℕ) → i < 8 → get_or bs (8 + i) 0 ≡ 0

pub heading_good : (bs : List ℕ) (kind most : ℕ) → heading bs kind most ≡ Ok tt → HeadingGood bs kind most
heading_good bs kind most h =
    let a = both_ok (frame bs 0 14 kind Heading 0) _ h in
    let b = both_ok (unless (leb 1 (quays_in bs) && leb (quays_in bs) 256) _) _ a.1 in
    let d = both_ok (unless (leb (entries_in bs) most) _) _ b.1 in
    let x = b.0 in
    let y = d.0 in
    record {
      due = frame_good bs 0 14 kind Heading 0 a.0;
      some_quay = grind (arith, nat_tests, x);
      few_quays = grind (arith, nat_tests, x);
      few_entries = grind (arith, nat_tests, y);
      zeros = λ i l. let e = up_to_each (zero_byte bs) 8 d.1 i l in grind (arith, nat_tests, e);
    }

pub heading-right : (bs : List ℕ) (kind most : ℕ) → HeadingGood bs kind most → heading bs kind most ≡ Ok tt
heading-right bs kind most h =
    let zeros = up_to_all (zero_byte bs) 8 (λ i l. rw (eq-eqb (get_or bs (8 + i) 0) 0 (h.zeros i l))) in
    rw (frame_right bs 0 14 kind Heading 0 h.due, le-leb 1 (quays_in bs) h.some_quay, le-leb (quays_in bs) 256 h.few_quays, le-leb (entries_in bs) most h.few_entries) zeros

-- an image whose entries, so wide, are each as Entry says
pub record ImageGood (bs : List ℕ) (kind most wide : ℕ) (Entry : (row : ℕ) → Type 0) : Type 0 where
  pub head : HeadingGood bs kind most
  pub quays : (q : ℕ) → q < quays_in bs → QuayGood bs q
  pub entries : (p : ℕ) → p < entries_in bs → Entry p
  pub long : length bs ≡ entry_at wide (quays_in bs) (entries_in bs)

abbrev pub PrintedGood : List ℕ → Type 0
PrintedGood bs = ImageGood bs 1 3072 16 (λ p. SailingGood bs (quays_in bs) p (entry_at 16 (quays_in bs) p))

abbrev pub ClockGood : List ℕ → Type 0
ClockGood bs = ImageGood bs 2 512 20 (λ p. SeriesGood bs (quays_in bs) p (entry_at 20 (quays_in bs) p))

ending_good : (bs : List ℕ) (end : ℕ) → ending bs end ≡ Ok tt → length bs ≡ end
ending_good bs end h = grind (arith, nat_tests, h)

pub printed_good : (bs : List ℕ) → printed_check bs ≡ Ok tt → PrintedGood bs
printed_good bs h =
    let a = both_ok (heading bs 1 3072) _ h in
    let b = both_ok (up_to (quay bs) (quays_in bs)) _ a.1 in
    let d = both_ok (up_to (sailing bs (quays_in bs)) (entries_in bs)) _ b.1 in
    record {
      head = heading_good bs 1 3072 a.0;
      quays = λ q l. quay_good bs q (up_to_each (quay bs) (quays_in bs) b.0 q l);
      entries = λ p l. sailing_good bs (quays_in bs) p (up_to_each (sailing bs (quays_in bs)) (entries_in bs) d.0 p l);
      long = ending_good bs _ d.1;
    }

pub printed-right : (bs : List ℕ) → PrintedGood bs → printed_check bs ≡ Ok tt
printed-right bs h =
    rw (
      heading-right bs 1 3072 h.head,
      up_to_all (quay bs) (quays_in bs) (λ q l. quay-right bs q (h.quays q l)),
      up_to_all (sailing bs (quays_in bs)) (entries_in bs) (λ p l. sailing-right bs (quays_in bs) p (h.entries p l)),
      eq-eqb (length bs) (entry_at 16 (quays_in bs) (entries_in bs)) h.long,
    )

pub clock_good : (bs : List ℕ) → clock_check bs ≡ Ok tt → ClockGood bs
clock_good bs h =
    let a = both_ok (heading bs 2 512) _ h in
    let b = both_ok (up_to (quay bs) (quays_in bs)) _ a.1 in
    let d = both_ok (up_to (series bs (quays_in bs)) (entries_in bs)) _ b.1 in
    record {
      head = heading_good bs 2 512 a.0;
      quays = λ q l. quay_good bs q (up_to_each (quay bs) (quays_in bs) b.0 q l);
      entries = λ p l. series_good bs (quays_in bs) p (up_to_each (series bs (quays_in bs)) (entries_in bs) d.0 p l);
      long = ending_good bs _ d.1;
    }

pub clock_right : (bs : List ℕ) → ClockGood bs → clock_check bs ≡ Ok tt
clock_right bs h =
    rw (
      heading-right bs 2 512 h.head,
      up_to_all (quay bs) (quays_in bs) (λ q l. quay-right bs q (h.quays q l)),
      up_to_all (series bs (quays_in bs)) (entries_in bs) (λ p l. series-right bs (quays_in bs) p (h.entries p l)),
      eq-eqb (length bs) (entry_at 20 (quays_in bs) (entries_in bs)) h.long,
    )
