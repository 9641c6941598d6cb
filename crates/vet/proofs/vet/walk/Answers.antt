use Rattle.std.proofs.Common.{◌∙◌, arith}
use Rattle.vet.specs.Standings.{stand_of}
use Rattle.vet.proofs.Walked.{class_read, begun, went, stopped, arrived, strayed}
use Rattle.vet.proofs.vet.walk.Goals as goal

pub loop-k-init : goal.loop-k-init
loop-k-init g c =
    begun (g.B.Book.meaning c.args.book.now) c.unwrap_or-extra.result c.args.query (stand_of c.at_start-here.result) c.args.plan.now
    (class_read c.args.query.class c.class_minutes.result c.unwrap_or-extra.result c.class_minutes.ensures c.unwrap_or-extra.ensures) c.at_start-here.ensures

pub loop-k-preserved : goal.loop-k-preserved
loop-k-preserved g c =
    went (g.B.Book.meaning c.args.book.now) c.unwrap_or-extra.result (stand_of c.loop-k.here) c.args.plan.now c.loop-k.k c.args.query.to _ c.in-Ok.s (stand_of c.after_leg-here.result)
    c.loop-k-test.true c.in-Ok.ensures c.after_leg-here.ensures
    ∙ c.loop-k.invariant

pub returns-in-Err : goal.returns-in-Err
returns-in-Err g c =
    stopped (g.B.Book.meaning c.args.book.now) c.unwrap_or-extra.result (stand_of c.loop-k.here) c.args.plan.now c.loop-k.k c.args.query.to _ c.in-Err.refusal
    c.loop-k-test.true c.in-Err.ensures
    ∙ c.loop-k.invariant

pub returns-then-here-query : goal.returns-then-here-query
returns-then-here-query g c =
    strayed (g.B.Book.meaning c.args.book.now) c.unwrap_or-extra.result (stand_of c.loop-k.here) c.args.plan.now c.loop-k.k c.args.query.to
    (omega arith) c.if-here-query.true
    ∙ c.loop-k.invariant

pub returns : goal.returns
returns g c =
    arrived (g.B.Book.meaning c.args.book.now) c.unwrap_or-extra.result (stand_of c.loop-k.here) c.args.plan.now c.loop-k.k c.args.query.to
    (omega arith) c.if-here-query.false
    ∙ c.loop-k.invariant
