-- An image means what it holds. Assumes nothing.
use Rattle.std.proofs.Common.{◌≡◌, ℕ, List, map, ap, ◌∙◌}
use Rattle.std.specs.List.{flat_map}
use Rattle.image.specs.declared.quay.Quay.{Quay}
use Rattle.timetable.specs.declared.sailing.Sailing.{Sailing}
use Rattle.image.specs.declared.series.Series.{Series}
use Rattle.image.specs.Layout.{layout, sailing_bytes, series_bytes}
use Rattle.image.specs.Records.{sailings_of, series_of}
use Rattle.image.specs.Meanings.{timetable, members, printed, clock_face}
use Rattle.image.proofs.Laid.{printed_laid, clock_laid}
use Rattle.image.proofs.Held.{changes_same, sailings_same, series_same}

pub printed_same : (quays : List Quay) (xs : List Sailing) (bs : List ℕ) → bs ≡ layout 1 sailing_bytes quays xs → printed bs ≡ timetable (map (λ q. q.change) quays) xs
printed_same quays xs bs e =
    ap (λ c. timetable c (sailings_of bs)) (changes_same sailing_bytes 1 16 quays xs bs (printed_laid quays xs bs e))
    ∙ ap (timetable (map (λ q. q.change) quays)) (sailings_same quays xs bs e)

pub clock_same : (quays : List Quay) (xs : List Series) (bs : List ℕ) → bs ≡ layout 2 series_bytes quays xs → clock_face bs ≡ timetable (map (λ q. q.change) quays) (flat_map members xs)
clock_same quays xs bs e =
    ap (λ c. timetable c (flat_map members (series_of bs))) (changes_same series_bytes 2 20 quays xs bs (clock_laid quays xs bs e))
    ∙ ap (λ t. timetable (map (λ q. q.change) quays) (flat_map members t)) (series_same quays xs bs e)
