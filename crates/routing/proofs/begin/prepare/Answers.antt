use Rattle.std.proofs.Common.{length, rules, arith}
use Rattle.routing.proofs.Begun.{begin, begun, blank, none_open}
use Rattle.routing.proofs.begin.prepare.Goals as goal

pub open_quay-requires : goal.open_quay-requires
open_quay-requires g c = record {
  ready = begin c.fill.new.self (blank c.fill.new.self (length c.args.labels.now) (search rules)) (g.B.Book.meaning c.args.book.now) c.args.trip c.args.labels.now (g.L.Line.keys c.args.line.now)
      c.requires.asked c.fill.ensures.len _ c.clear.ensures;
  many = omega (arith, c.requires.many, c.requires.asked.fair.lawful.few_quays);
  opened = none_open (g.B.Book.meaning c.args.book.now) c.args.trip c.fill.new.self c.args.spans.now c.args.trip.minute c.requires.closed;
}

pub returns : goal.returns
returns g c =
    begun c.fill.new.self (blank c.fill.new.self (length c.args.labels.now) (search rules)) (g.B.Book.meaning c.args.book.now) c.args.trip c.args.labels.now (g.L.Line.keys c.args.line.now) c.requires.asked
    _ _ _ (omega (arith, c.requires.many)) c.open_quay.ensures.opened c.open_quay.ensures.through
