use Rattle.std.proofs.Common.{ℕ, ◌<◌, Ok, Result, sym, ap, ◌∙◌, arith}
use Rattle.timetable.specs.declared.refusal.Refusal.{Refusal}
use Rattle.timetable.specs.declared.refusal.Refusal.TheVariants.{NoQuay}
use Rattle.timetable.proofs.Told.{asked_in}
use Rattle.board_tests.specs.Forty.{forty, all_alike}
use Rattle.board_tests.proofs.forty.FortyQuaysBook.change.Goals as goal

pub returns-then-quay-lt-QUAYS : goal.returns-then-quay-lt-QUAYS
returns-then-quay-lt-QUAYS c =
    let h : c.args.quay < 40 = omega arith in
    ap {B = Result ℕ Refusal} Ok (sym (all_alike 40 0 c.args.quay)) ∙ sym (asked_in forty.changes c.args.quay 0 NoQuay h)
