-- The check of a quay and of a sailing by what they hold. Assumes nothing.
use Rattle.std.specs.Prelude.{ℕ, ◌+◌, slice_index, nat_le}
use Rattle.std.specs.Result.{result_and}
use Rattle.timetable.specs.declared.refusal.Refusal.TheVariants.{OutOfLimits}
use Rattle.timetable.specs.declared.sailing.Sailing.{Sailing}
use Rattle.image.specs.declared.fault.Part.TheVariants.{Quays, Entries}
use Rattle.image.specs.declared.quay.Quay.{Quay}
use Rattle.image.specs.Checks.{Check, unless, fault, up_to, letter_is, ends_are, times_are}
use Rattle.image.specs.Records.{quay_start}

abbrev pub letter : Quay → ℕ → ℕ → Check
letter q row i = letter_is (slice_index q.name i) row i

abbrev pub quay_of : Quay → ℕ → Check
quay_of q row = result_and (unless (nat_le q.change 1439) (fault OutOfLimits Quays row (quay_start row + 4))) (up_to (letter q row) 10)

abbrev pub ends_of : Sailing → ℕ → ℕ → ℕ → ℕ → Check
ends_of s before quays row at = ends_are s.from s.to before quays Entries row at

abbrev pub sailing_of : Sailing → ℕ → ℕ → ℕ → ℕ → Check
sailing_of s before quays row at = result_and (ends_of s before quays row at) (times_are s Entries row at)
