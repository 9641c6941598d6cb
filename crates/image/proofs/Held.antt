-- What is read from a layout is what was laid. Assumes nothing.
use Rattle.std.proofs.Common.{◌≡◌, ℕ, ◌<◌, List, [], ◌++◌, map, length, get_or, drop, sym, ap, ◌∙◌, zero-add, arith}
use lib.ListN.{length-map}
use Rattle.std.specs.List.{range_with_len, AllByRecursion as All}
use Rattle.std.proofs.lemmas.List.FromFn.{fill_by_all, get_or-map-range_with_len, length-map-range_with_len}
use Rattle.std.proofs.ByRecursion.{All-get_or}
use Rattle.std.proofs.lemmas.List.{get_or-map, same_lists}
use Rattle.image.specs.declared.quay.Quay.{Quay}
use Rattle.timetable.specs.declared.sailing.Sailing.{Sailing}
use Rattle.image.specs.declared.series.Series.{Series}
use Rattle.image.specs.Records.{quays_in, entries_in, entry_at, quay_at, quays_of, sailing_at, sailings_of, series_at, series_of}
use Rattle.image.specs.Images.{PrintedOf, ClockOf, OneContent}
use Rattle.image.specs.Limits.{QuayKept}
use Rattle.image.specs.Layout.{layout, letters, sailing_bytes, series_bytes}
use Rattle.image.proofs.Laid.{Laid, QuayRead, quay_read, quay-whole, sailing_read, series_read, printed_laid, clock_laid, printed-held, clock_held}

no_quay : Quay
no_quay = record { change = 0; name = [] }

no_sailing : Sailing
no_sailing = record { run = 0; leg = 0; from = 0; to = 0; dep = 0; arr = 0 }

no_series : Series
no_series = record { run = 0; leg = 0; from = 0; to = 0; first = 0; period = 0; count = 0; length = 0 }

module _ {X : Type 0} (f : X → List ℕ) (kind wide : ℕ) (quays : List Quay) (xs : List X) (bs : List ℕ) (l : Laid f kind wide quays xs bs) where
  -- a column of the quays
  column : {Y : Type 0} (g h : Quay → Y) → ((q : ℕ) → QuayRead bs q (get_or quays q no_quay) → g (quay_at bs q) ≡ h (get_or quays q no_quay)) → map g (quays_of bs) ≡ map h quays
  column g h same =
      let n = length-map-range_with_len (quay_at bs) 0 (quays_in bs) in
      same_lists (map g (quays_of bs)) (map h quays) (length-map (quays_of bs) g ∙ n ∙ l.quays_number ∙ sym (length-map quays h))
      (λ k d i.
      let a : k < quays_in bs = omega (arith, length-map (quays_of bs) g, n) in
      let b : k < length quays = omega (arith, l.quays_number) in
      let c : k < length (quays_of bs) = omega (arith, n) in
      let r = l.quay_there k no_quay b in
      get_or-map g (quays_of bs) k no_quay d c
      ∙ ap g (get_or-map-range_with_len (quay_at bs) 0 (quays_in bs) k k no_quay a (zero-add k))
      ∙ same k (quay_read bs k (get_or quays k no_quay) r.0 r.1)
      ∙ sym (get_or-map h quays k no_quay d b))

  pub changes_same : map (λ q. q.change) (quays_of bs) ≡ map (λ q. q.change) quays
  changes_same = column (λ q. q.change) (λ q. q.change) (λ q r. r.change_is)

  pub names_same : map (λ q. q.name) (quays_of bs) ≡ map (λ q. letters q.name) quays
  names_same = column (λ q. q.name) (λ q. letters q.name) (λ q r. r.name_is)

  pub quays_same : All QuayKept quays → quays_of bs ≡ quays
  quays_same kept =
      sym (fill_by_all (quay_at bs) quays (quays_in bs) no_quay (sym l.quays_number)
      (λ k i.
      let b : k < length quays = omega (arith, l.quays_number) in
      let r = l.quay_there k no_quay b in
      sym (quay-whole bs k (get_or quays k no_quay) (All-get_or QuayKept quays k no_quay b kept).ten (quay_read bs k (get_or quays k no_quay) r.0 r.1))))

  pub entries_same : (g : ℕ → X) (d : X) → ((at : ℕ) (x : X) (rest : List ℕ) → drop at bs ≡ f x ++ rest → g at ≡ x) → map (λ p. g (entry_at wide (quays_in bs) p)) (range_with_len 0 (entries_in bs)) ≡ xs
  entries_same g d h =
      sym (fill_by_all (λ p. g (entry_at wide (quays_in bs) p)) xs (entries_in bs) d (sym l.entries_number)
      (λ k i.
      let r = l.entry_there k d (omega (arith, l.entries_number)) in
      sym (ap (λ n. g (entry_at wide n k)) l.quays_number ∙ h (entry_at wide (length quays) k) (get_or xs k d) r.0 r.1)))

pub sailings_same : (quays : List Quay) (xs : List Sailing) (bs : List ℕ) → bs ≡ layout 1 sailing_bytes quays xs → sailings_of bs ≡ xs
sailings_same quays xs bs e = entries_same sailing_bytes 1 16 quays xs bs (printed_laid quays xs bs e) (sailing_at bs) no_sailing (λ at x rest h. (sailing_read bs at x rest h).is)

pub series_same : (quays : List Quay) (xs : List Series) (bs : List ℕ) → bs ≡ layout 2 series_bytes quays xs → series_of bs ≡ xs
series_same quays xs bs e = entries_same series_bytes 2 20 quays xs bs (clock_laid quays xs bs e) (series_at bs) no_series (λ at x rest h. (series_read bs at x rest h).is)

pub printed_quays : (bs : List ℕ) (c : PrintedOf bs) → quays_of bs ≡ c.quays
printed_quays bs c = quays_same sailing_bytes 1 16 c.quays c.sailings bs (printed_laid c.quays c.sailings bs c.laid) c.kept.quays_kept.quay_kept

pub clock_quays : (bs : List ℕ) (c : ClockOf bs) → quays_of bs ≡ c.quays
clock_quays bs c = quays_same series_bytes 2 20 c.quays c.series bs (clock_laid c.quays c.series bs c.laid) c.kept.quays_kept.quay_kept

pub one_content : OneContent
one_content = (
  λ bs c d. (sym (printed_quays bs c) ∙ printed_quays bs d, sym (sailings_same c.quays c.sailings bs c.laid) ∙ sailings_same d.quays d.sailings bs d.laid),
  λ bs c d. (sym (clock_quays bs c) ∙ clock_quays bs d, sym (series_same c.quays c.series bs c.laid) ∙ series_same d.quays d.series bs d.laid),
  λ bs c d. omega (arith, (printed-held bs c).head.due.kind_due, (clock_held bs d).head.due.kind_due),
)
