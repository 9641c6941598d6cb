-- The check of a content before it is laid out: what the check of its image would come to, where lengths and kinds are right. Assumes nothing.
use Rattle.std.specs.Prelude.{ℕ, ◌-◌, cond, List, [], length, get_or, ◌==◌, slice_index_or}
use Rattle.std.specs.Result.{result_and}
use Rattle.timetable.specs.declared.sailing.Sailing.{Sailing}
use Rattle.image.specs.declared.quay.Quay.{Quay}
use Rattle.image.specs.Checks.{Check, up_to, sizes_within}
use Rattle.image.specs.Content.{quay_of, sailing_of}
use Rattle.image.specs.Records.{entry_at}

abbrev pub sizes : ℕ → ℕ → Check
sizes n m = sizes_within 3072 n m

abbrev pub no_quay : Quay
no_quay = record { change = 0; name = [] }

abbrev pub no_sailing : Sailing
no_sailing = record { run = 0; leg = 0; from = 0; to = 0; dep = 0; arr = 0 }

abbrev pub before : List Sailing → ℕ → ℕ
before xs row = cond (row == 0) 0 (get_or xs (row - 1) no_sailing).from

abbrev pub quay_row : List Quay → ℕ → Check
quay_row quays row = quay_of (slice_index_or quays row no_quay) row

abbrev pub sailing_row : ℕ → List Sailing → ℕ → Check
sailing_row n xs row = sailing_of (slice_index_or xs row no_sailing) (before xs row) n row (entry_at 16 n row)

abbrev pub content_check : List Quay → List Sailing → Check
content_check quays sailings =
    result_and (sizes (length quays) (length sailings))
    (result_and (up_to (quay_row quays) (length quays))
    (up_to (sailing_row (length quays) sailings) (length sailings)))
