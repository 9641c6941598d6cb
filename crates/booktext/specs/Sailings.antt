-- Lines that tell a sailing. Assumes nothing.
use Rattle.std.specs.Prelude.{◌≡◌, ℕ, cond, List, length, take, Ok, Err, codes, Result, ◌==◌}
use Rattle.timetable.specs.declared.sailing.Sailing.{Sailing}
use Rattle.numerals.specs.declared.field.Field.{Field}
use Rattle.numerals.specs.Numbers.{Numeral}
use Rattle.numerals.specs.Times.{TimeOfDay}
use Rattle.booktext.specs.declared.entry.LineFault.{LineFault}
use Rattle.booktext.specs.declared.entry.LineFault.TheVariants.{Surplus}
use Rattle.booktext.specs.Fields.{number_here, time_here, and_then}

abbrev pub sailing_with : (run leg from to dep arr : Field ℕ) → Sailing
sailing_with run leg from to dep arr =
    record { run = run.value; leg = leg.value; from = from.value; to = to.value; dep = dep.value; arr = arr.value }

abbrev pub sailing_of : List ℕ → Result Sailing LineFault
sailing_of line =
    and_then (number_here line 7) (λ run. and_then (number_here line run.next) (λ leg. and_then (number_here line leg.next) (λ from.
    and_then (number_here line from.next) (λ to. and_then (time_here line to.next) (λ dep. and_then (time_here line dep.next) (λ arr.
    cond (arr.next == length line) (Ok (sailing_with run leg from to dep arr)) (Err (Surplus arr.next))))))))

-- the word, then four numbers and two times, each from the byte after the one before, and the last up to the end
pub record SailingLine (line : List ℕ) (s : Sailing) : Type 0 where
  pub after_run : ℕ
  pub after_leg : ℕ
  pub after_from : ℕ
  pub after_to : ℕ
  pub after_dep : ℕ
  pub word : take 7 line ≡ codes "sailing"
  pub run : Numeral line 7 (record { value = s.run; next = after_run })
  pub leg : Numeral line after_run (record { value = s.leg; next = after_leg })
  pub from : Numeral line after_leg (record { value = s.from; next = after_from })
  pub to : Numeral line after_from (record { value = s.to; next = after_to })
  pub dep : TimeOfDay line after_to (record { value = s.dep; next = after_dep })
  pub arr : TimeOfDay line after_dep (record { value = s.arr; next = length line })
