use Rattle.std.proofs.Common.{set, Some, sym, ap, ◌∙◌, subst, arith}
use Rattle.timetable.specs.declared.refusal.Refusal.TheVariants.{NoQuay}
use Rattle.timetable.specs.Timetables.{span_at, nowhere}
use Rattle.timetable.proofs.Told.{asked_ok, asked_err}
use Rattle.routing.specs.Origins.{minute_of}
use Rattle.routing.specs.Relaxing.{Opened}
use Rattle.routing.proofs.Opens.{opened_more}
use Rattle.routing.proofs.Turned.{span_order, whole, origin_quay}
use Rattle.routing.proofs.relax.open_quay.Goals as goal

pub bounds-spans-quay : goal.bounds-spans-quay
bounds-spans-quay g c =
    omega (arith, origin_quay (g.B.Book.meaning c.args.book.now) c.args.trip c.args.origin c.args.labels.now (g.L.Line.keys c.args.line.now) c.requires.ready, c.quay_of-quay.ensures, c.requires.many)

pub relax_span-requires : goal.relax_span-requires
relax_span-requires g c =
    let T = g.B.Book.meaning c.args.book.now in
    record {
      ready = c.requires.ready;
      order = span_order T c.quay_of-quay.result c.in-Ok.span c.requires.ready.fair.lawful (asked_ok T.spans c.quay_of-quay.result nowhere c.in-Ok.span NoQuay c.in-Ok.ensures).1;
    }

pub returns-in-Ok : goal.returns-in-Ok
returns-in-Ok g c =
    let T = g.B.Book.meaning c.args.book.now in
    let told = (asked_ok T.spans c.quay_of-quay.result nowhere c.in-Ok.span NoQuay c.in-Ok.ensures).1 in
    let is = told ∙ ap (span_at T) c.quay_of-quay.ensures in
    let t = whole T c.args.trip c.args.origin c.args.labels.now c.relax_span.new.labels (g.L.Line.keys c.relax_span.new.line) c.in-Ok.span is c.relax_span.ensures in
    record {
      through = t;
      opened = subst (λ k. Opened T c.args.trip c.relax_span.new.labels (set c.args.spans.now k (Some c.in-Ok.span)) (minute_of c.args.origin)) (sym c.quay_of-quay.ensures)
          (opened_more T c.args.trip c.args.origin c.args.labels.now c.relax_span.new.labels (g.L.Line.keys c.relax_span.new.line) c.args.spans.now c.in-Ok.span
          (omega (arith, origin_quay T c.args.trip c.args.origin c.args.labels.now (g.L.Line.keys c.args.line.now) c.requires.ready, c.requires.many)) is c.requires.opened t);
    }

pub returns-in_default : goal.returns-in_default
returns-in_default g c =
    let T = g.B.Book.meaning c.args.book.now in
    let q = origin_quay T c.args.trip c.args.origin c.args.labels.now (g.L.Line.keys c.args.line.now) c.requires.ready in
    absurd (omega (arith, (asked_err T.spans c.quay_of-quay.result nowhere NoQuay _ c.in_default.ensures).0, c.quay_of-quay.ensures, c.requires.ready.fair.lawful.as_many_spans))
