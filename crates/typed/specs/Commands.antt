-- What a typed line asks for. Assumes nothing.
use Rattle.std.specs.Prelude.{ℕ, cond, List, length, Ok, Err, Result, ◌==◌, nat_lt, slice_index}
use Rattle.std.specs.Result.{result_map_both}
use Rattle.timetable.specs.declared.refusal.Refusal.{Refusal}
use Rattle.timetable.specs.declared.refusal.Refusal.TheVariants.{NoLetter, LongLine}
use Rattle.timetable.specs.declared.call.Call.{Call}
use Rattle.timetable.specs.declared.call.Call.TheVariants.{Withhold, Release, Shut, Open, Thin, Route}
use Rattle.typed.specs.Fields.{whole, one_of, query_of}

-- the letter of a line of at most 64 bytes
abbrev pub letter_in : List ℕ → Result ℕ Refusal
letter_in line = cond (nat_lt 64 (length line)) (Err LongLine) (cond (length line == 0) (Err NoLetter) (Ok (slice_index line 0)))

-- W is byte 87, R 82, S 83, O 79, T 84 and Q 81
abbrev pub by_letter : ℕ → List ℕ → Result Call Refusal
by_letter letter line =
    cond (letter == 87) (result_map_both Withhold (λ e. e) (one_of line))
    (cond (letter == 82) (result_map_both Release (λ e. e) (one_of line))
    (cond (letter == 83) (result_map_both Shut (λ e. e) (one_of line))
    (cond (letter == 79) (result_map_both Open (λ e. e) (one_of line))
    (cond (letter == 84) (whole line 1 Thin)
    (cond (letter == 81) (result_map_both Route (λ e. e) (query_of line)) (Err NoLetter))))))

abbrev pub command_of : List ℕ → Result Call Refusal
command_of line =
    cond (nat_lt 64 (length line)) (Err LongLine)
    (cond (length line == 0) (Err NoLetter) (by_letter (slice_index line 0) line))
