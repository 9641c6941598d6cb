-- What a line of a timetable says. Assumes nothing.
use Rattle.std.specs.Prelude.{◌≡◌, ℕ, Bool, cond, ◌||◌, ◌⊎◌, List, [], length, Some, None, Ok, Err, codes, Option, Result, ◌==◌, nat_eq, slice_index}
use Rattle.std.specs.Result.{result_map_both}
use Rattle.std.specs.List.{starts_with}
use Rattle.timetable.specs.declared.sailing.Sailing.{Sailing}
use Rattle.image.specs.declared.quay.Quay.{Quay}
use Rattle.booktext.specs.declared.entry.Entry.{Entry}
use Rattle.booktext.specs.declared.entry.Entry.TheVariants.{Quay as OfQuay, Sailing as OfSailing}
use Rattle.booktext.specs.declared.entry.LineFault.{LineFault}
use Rattle.booktext.specs.declared.entry.LineFault.TheVariants.{NoWord}
use Rattle.booktext.specs.Quays.{quay_of, QuayLine}
use Rattle.booktext.specs.Sailings.{sailing_of, SailingLine}

abbrev pub begins : List ℕ → List ℕ → Bool
begins word line = starts_with nat_eq line word

abbrev pub worded : List ℕ → Result Entry LineFault
worded line =
    cond (begins (codes "quay") line) (result_map_both OfQuay (λ e. e) (quay_of line))
    (cond (begins (codes "sailing") line) (result_map_both OfSailing (λ e. e) (sailing_of line)) (Err NoWord))

abbrev pub line_of : List ℕ → Result (Option Entry) LineFault
line_of line = cond (length line == 0 || slice_index line 0 == 35) (Ok None) (result_map_both Some (λ e. e) (worded line))

-- a line that says nothing is empty or begins with #, which is byte 35
abbrev pub Silent : List ℕ → Type 0
Silent line = (line ≡ []) ⊎ (slice_index line 0 ≡ 35)

-- an answer is given exactly where a fact holds
abbrev pub Answers : {X : Type 0} → X → X → Type 0 → Type 0
Answers r a P = (r ≡ a → P) × (P → r ≡ a)

-- the answer tells what the line says, and nothing else
pub record Says (line : List ℕ) (r : Result (Option Entry) LineFault) : Type 0 where
  pub silent : Answers r (Ok None) (Silent line)
  pub quay : (q : Quay) → Answers r (Ok (Some (OfQuay q))) (QuayLine line q)
  pub sailing : (s : Sailing) → Answers r (Ok (Some (OfSailing s))) (SailingLine line s)
