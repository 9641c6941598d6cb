-- The check of a content is the check of its layout. Assumes nothing.
use Rattle.std.proofs.Common.{◌≡◌, ℕ, zero, suc, ◌+◌, ◌-◌, ◌<◌, ◌≤◌, cond, ◌&&◌, eqb, leb, List, length, get_or, Ok, Err, refl, ap, ◌∙◌, arith}
use Rattle.std.specs.Result.{result_and}
use Rattle.std.proofs.lemmas.Bool.{eq-eqb, ne_eqb, le-leb, lt-leb}
use Rattle.image.specs.declared.fault.Fault.{Fault}
use Rattle.image.specs.declared.fault.Part.TheVariants.{Heading, Quays, Entries}
use Rattle.timetable.specs.declared.refusal.Refusal.TheVariants.{OutOfLimits}
use Rattle.image.specs.declared.quay.Quay.{Quay}
use Rattle.timetable.specs.declared.sailing.Sailing.{Sailing}
use Rattle.image.specs.Checks.{Check, unless, fault, up_to, heading, zero_byte, quay, name_byte, ends, from_before, times, sailing, ending, letter_is, printed_check}
use Rattle.image.specs.Records.{number_at, quay_start, entry_at, quays_in, entries_in}
use Rattle.image.specs.Layout.{sailing_bytes}
use Rattle.image.proofs.Good.{Frame, frame_right}
use Rattle.image.proofs.Walks.{up_to_all, up_to_same}
use Rattle.image.proofs.Laid.{Laid, printed_laid, SailingRead, sailing_read, QuayRead, quay_read}
use Rattle.binder.specs.declared.unbound.Unbound.TheVariants.{Faulty, ShortImage}
use Rattle.image.specs.Content.{letter, sailing_of}
use Rattle.binder.specs.Content.{sizes, no_quay, no_sailing, before, quay_row, sailing_row, content_check}
use Rattle.binder.specs.Binding.{book_bytes, answer, bound}

pub before_more : (xs : List Sailing) (row : ℕ) → (get_or xs row no_sailing).from ≡ before xs (row + 1)
before_more xs row =
    let e : row + 1 - 1 ≡ row = omega arith in
    rw (ne_eqb (row + 1) 0 (λ z. omega arith), e)

then_ok : (r : Check) → result_and r (Ok tt) ≡ r
then_ok (Ok x) = refl
then_ok (Err e) = refl

module _ (quays : List Quay) (xs : List Sailing) (bs : List ℕ) (e : bs ≡ book_bytes quays xs) where
  pub placed : Laid sailing_bytes 1 16 quays xs bs
  placed = printed_laid quays xs bs e

  pub quay_there : (row : ℕ) → row < length quays → QuayRead bs row (get_or quays row no_quay)
  quay_there row l = let r = placed.quay_there row no_quay l in quay_read bs row (get_or quays row no_quay) r.0 r.1

  pub sailing_there : (row : ℕ) → row < length xs → SailingRead bs (entry_at 16 (length quays) row) (get_or xs row no_sailing)
  sailing_there row l = let r = placed.entry_there row no_sailing l in sailing_read bs (entry_at 16 (length quays) row) (get_or xs row no_sailing) r.0 r.1

  heading_is : heading bs 1 3072 ≡ sizes (length quays) (length xs)
  heading_is =
      let zeros = up_to_all (zero_byte bs) 8 (λ i l. rw (eq-eqb (get_or bs (8 + i) 0) 0 (placed.zeros i l))) in
      let w4 : Check = unless (leb 1 (length quays) && leb (length quays) 256) (fault OutOfLimits Heading 0 4) in
      let w6 : Check = unless (leb (length xs) 3072) (fault OutOfLimits Heading 0 6) in
      ap (λ r. result_and r (result_and (unless (leb 1 (quays_in bs) && leb (quays_in bs) 256) (fault OutOfLimits Heading 0 4)) (result_and (unless (leb (entries_in bs) 3072) (fault OutOfLimits Heading 0 6)) (up_to (zero_byte bs) 8)))) (frame_right bs 0 14 1 Heading 0 placed.due)
      ∙ ap (λ n. result_and (unless (leb 1 n && leb n 256) (fault OutOfLimits Heading 0 4)) (result_and (unless (leb (entries_in bs) 3072) (fault OutOfLimits Heading 0 6)) (up_to (zero_byte bs) 8))) placed.quays_number
      ∙ ap (λ m. result_and w4 (result_and (unless (leb m 3072) (fault OutOfLimits Heading 0 6)) (up_to (zero_byte bs) 8))) placed.entries_number
      ∙ ap (λ z. result_and w4 (result_and w6 z)) zeros
      ∙ ap (λ z. result_and w4 z) (then_ok w6)

  quay_is : (row : ℕ) → row < length quays → quay bs row ≡ quay_row quays row
  quay_is row l =
      let q = get_or quays row no_quay in
      let r = quay_there row l in
      let due : Frame bs (quay_start row) 14 3 = record { inside = omega (arith, placed.long); length_due = r.length_due; kind_due = r.kind_due } in
      let name = up_to_same (name_byte bs row) (letter q row) 10 (λ i k. ap (λ b. letter_is b row i) (r.letter_is_lem i k)) in
      ap (λ z. result_and (result_and z (unless (leb (number_at bs (quay_start row + 4)) 1439) (fault OutOfLimits Quays row (quay_start row + 4)))) (up_to (name_byte bs row) 10)) (frame_right bs (quay_start row) 14 3 Quays row due)
      ∙ ap (λ k. result_and (unless (leb k 1439) (fault OutOfLimits Quays row (quay_start row + 4))) (up_to (name_byte bs row) 10)) r.change_is
      ∙ ap (λ z. result_and (unless (leb q.change 1439) (fault OutOfLimits Quays row (quay_start row + 4))) z) name

  before_is : (row : ℕ) → row < length xs → from_before bs row (entry_at 16 (length quays) row) 16 ≡ before xs row
  before_is zero l = refl
  before_is (suc row) l =
      let at : entry_at 16 (length quays) (suc row) + 8 - 16 ≡ entry_at 16 (length quays) row + 8 = omega arith in
      let back : suc row - 1 ≡ row = omega arith in
      rw (ne_eqb (suc row) 0 (λ z. omega arith), at, back) (ap (λ s. s.from) (sailing_there row (omega arith)).is)

  sailing_is : (row : ℕ) → row < length xs → sailing bs (length quays) row ≡ sailing_row (length quays) xs row
  sailing_is row l =
      let n = length quays in
      let at = entry_at 16 n row in
      let r = sailing_there row l in
      let due : Frame bs at 14 4 = record { inside = omega (arith, placed.long); length_due = r.length_due; kind_due = r.kind_due } in
      ap (λ z. result_and z (result_and (ends bs n row at 16) (times bs row at))) (frame_right bs at 14 4 Entries row due)
      ∙ ap (λ s. sailing_of s (from_before bs row at 16) n row at) r.is
      ∙ ap (λ b. sailing_of (get_or xs row no_sailing) b n row at) (before_is row l)

  pub content_is : printed_check bs ≡ content_check quays xs
  content_is =
      let n = length quays in
      let m = length xs in
      let a = sizes n m in
      let long : unless (eqb (length bs) (entry_at 16 n m)) _ ≡ Ok tt = rw (eq-eqb (length bs) (entry_at 16 n m) placed.long) in
      ap (λ z. result_and z (result_and (up_to (quay bs) (quays_in bs)) (result_and (up_to (sailing bs (quays_in bs)) (entries_in bs)) (ending bs (entry_at 16 (quays_in bs) (entries_in bs)))))) heading_is
      ∙ ap (λ k. result_and a (result_and (up_to (quay bs) k) (result_and (up_to (sailing bs k) (entries_in bs)) (ending bs (entry_at 16 k (entries_in bs)))))) placed.quays_number
      ∙ ap (λ k. result_and a (result_and (up_to (quay bs) n) (result_and (up_to (sailing bs n) k) (ending bs (entry_at 16 n k))))) placed.entries_number
      ∙ ap (λ z. result_and a (result_and z (result_and (up_to (sailing bs n) m) (ending bs (entry_at 16 n m))))) (up_to_same (quay bs) (quay_row quays) n quay_is)
      ∙ ap (λ z. result_and a (result_and (up_to (quay_row quays) n) (result_and z (ending bs (entry_at 16 n m))))) (up_to_same (sailing bs n) (sailing_row n xs) m sailing_is)
      ∙ ap (λ z. result_and a (result_and (up_to (quay_row quays) n) (result_and (up_to (sailing_row n xs) m) z))) long
      ∙ ap (λ z. result_and a (result_and (up_to (quay_row quays) n) z)) (then_ok (up_to (sailing_row n xs) m))

  pub length_is : length bs ≡ entry_at 16 (length quays) (length xs)
  length_is = placed.long

module _ (quays : List Quay) (xs : List Sailing) (room : ℕ) where
  pub bound-fault : (e : Fault) → content_check quays xs ≡ Err e → bound quays xs room ≡ Err (Faulty e)
  bound-fault e h = ap (λ r. answer r (length (book_bytes quays xs)) room) (content_is quays xs (book_bytes quays xs) refl ∙ h)

  passed : content_check quays xs ≡ Ok tt → bound quays xs room ≡ cond (leb (entry_at 16 (length quays) (length xs)) room) (Ok (entry_at 16 (length quays) (length xs))) (Err ShortImage)
  passed h =
      ap (λ r. answer r (length (book_bytes quays xs)) room) (content_is quays xs (book_bytes quays xs) refl ∙ h)
      ∙ ap (λ n. cond (leb n room) (Ok n) (Err ShortImage)) (length_is quays xs (book_bytes quays xs) refl)

  pub bound-short : content_check quays xs ≡ Ok tt → room < entry_at 16 (length quays) (length xs) → bound quays xs room ≡ Err ShortImage
  bound-short h l = passed h ∙ ap (λ b. cond b (Ok (entry_at 16 (length quays) (length xs))) (Err ShortImage)) (lt-leb (entry_at 16 (length quays) (length xs)) room l)

  pub bound-whole : content_check quays xs ≡ Ok tt → entry_at 16 (length quays) (length xs) ≤ room → bound quays xs room ≡ Ok (entry_at 16 (length quays) (length xs))
  bound-whole h l = passed h ∙ ap (λ b. cond b (Ok (entry_at 16 (length quays) (length xs))) (Err ShortImage)) (le-leb (entry_at 16 (length quays) (length xs)) room l)
