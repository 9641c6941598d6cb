-- Which sailings are in force after a history. Assumes nothing.
use Rattle.std.specs.Prelude.{ℕ, Bool, true, false, cond, ◌&&◌, ◌||◌, length, is_ok, ◌==◌}
use Rattle.timetable.specs.declared.sailing.Sailing.{Sailing}
use Rattle.timetable.specs.Timetables.{Timetable}
use Rattle.timetable.specs.Hiding.{hide}
use Rattle.tables.specs.Lists.{many}
use Rattle.timetable.specs.declared.call.Call.{Call}
use Rattle.timetable.specs.declared.call.Call.TheVariants.{Withhold, Release, Shut, Open, Thin, Route}
use Rattle.board.specs.declared.calls.Answer.{Answer}
use Rattle.board.specs.declared.calls.Answer.TheVariants.{Notice, Count, Told}
use Rattle.board.specs.History.{History, new, ◌then◌}

-- the call is a notice for this run
abbrev pub for_run : Call → ℕ → Bool
for_run (Withhold r) run = run == r
for_run (Release r) run = run == r
for_run (Shut q) run = false
for_run (Open q) run = false
for_run Thin run = false
for_run (Route q) run = false

-- the call is a notice for this quay
abbrev pub for_quay : Call → ℕ → Bool
for_quay (Withhold r) quay = false
for_quay (Release r) quay = false
for_quay (Shut q) quay = quay == q
for_quay (Open q) quay = quay == q
for_quay Thin quay = false
for_quay (Route q) quay = false

-- it takes sailings out of force
abbrev pub forbids : Call → Bool
forbids (Withhold r) = true
forbids (Release r) = false
forbids (Shut q) = true
forbids (Open q) = false
forbids Thin = false
forbids (Route q) = false

-- it is answered as a notice that is accepted
abbrev pub accepted : Answer → Bool
accepted (Notice r) = is_ok r
accepted (Count n) = false
accepted (Told r) = false

-- the last accepted notice for the run is a withhold
abbrev pub withheld : History → ℕ → Bool
withheld new run = false
withheld (h then e) run = cond (for_run e.call run && accepted e.answer) (forbids e.call) (withheld h run)

-- the last accepted notice for the quay is a shut
abbrev pub is_shut : History → ℕ → Bool
is_shut new quay = false
is_shut (h then e) quay = cond (for_quay e.call quay && accepted e.answer) (forbids e.call) (is_shut h quay)

-- how many numbers there are for runs
abbrev pub all_runs : ℕ
all_runs = 65536

-- how many of them are withheld
abbrev pub runs_withheld : History → ℕ
runs_withheld h = many (withheld h) all_runs

-- how many quays of the book are shut
abbrev pub quays_shut : Timetable → History → ℕ
quays_shut t h = many (is_shut h) (length t.changes)

-- a sailing of a withheld run, or that leaves or reaches a shut quay
abbrev pub out_of_force : History → ℕ → Sailing → Bool
out_of_force h place s = withheld h s.run || (is_shut h s.from || is_shut h s.to)

-- the opened book, with the sailings blank that are out of force
abbrev pub book_in_force : Timetable → History → Timetable
book_in_force t h = hide (out_of_force h) t
