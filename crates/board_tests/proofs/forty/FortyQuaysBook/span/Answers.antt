use Rattle.std.proofs.Common.{◌<◌, Ok, Result, sym, ap, ◌∙◌, arith}
use Rattle.timetable.specs.declared.refusal.Refusal.{Refusal}
use Rattle.timetable.specs.declared.refusal.Refusal.TheVariants.{NoQuay}
use Rattle.timetable.specs.declared.span.Span.{Span}
use Rattle.timetable.specs.Timetables.{nowhere}
use Rattle.timetable.proofs.Told.{asked_in}
use Rattle.board_tests.specs.Forty.{forty, all_alike}
use Rattle.board_tests.proofs.forty.FortyQuaysBook.span.Goals as goal

pub returns-then-quay-lt-QUAYS : goal.returns-then-quay-lt-QUAYS
returns-then-quay-lt-QUAYS c =
    let h : c.args.quay < 40 = omega arith in
    ap {B = Result Span Refusal} Ok (sym (all_alike 40 nowhere c.args.quay)) ∙ sym (asked_in forty.spans c.args.quay nowhere NoQuay h)
