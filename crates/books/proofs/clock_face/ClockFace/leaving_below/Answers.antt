use Rattle.std.proofs.Common.{◌≡◌, ◌<◌, map, ap, ◌∙◌, arith}
use Rattle.std.specs.List.{range_with_len, flat_map}
use Rattle.image.specs.Records.{entries_in}
use Rattle.image.specs.Meanings.{below, members}
use Rattle.image.proofs.Clocks.{row_in, sum_fits, sum_few, sum_more}
use Rattle.books.proofs.clock_face.ClockFace.leaving_below.Goals as goal

inside : (c : goal.After-counted-sum) → c.loop-row.row < entries_in c.args.self.now.bytes.now
inside c = omega (arith, c.entries-row-end.ensures, ap entries_in c.image.ensures, c.loop-row-test.true)

pub overflow_add-sum : goal.overflow_add-sum
overflow_add-sum c = let h = sum_fits c.args.self.now.bytes.now c.loop-row.row (inside c) c.series.result c.series.ensures c.args.quay c.counted-sum.result c.loop-row.sum c.counted-sum.ensures c.loop-row.invariant.1 c.args.self.now.sound in omega (arith, h)

pub loop-row-preserved : goal.loop-row-preserved
loop-row-preserved c = (
  sum_more c.args.self.now.bytes.now c.loop-row.row (inside c) c.series.result c.series.ensures c.args.quay c.counted-sum.result c.loop-row.sum c.counted-sum.ensures c.loop-row.invariant.1 c.loop-row.invariant.0,
  sum_few c.args.self.now.bytes.now c.loop-row.row (inside c) c.series.result c.series.ensures c.args.quay c.counted-sum.result c.loop-row.sum c.counted-sum.ensures c.loop-row.invariant.1,
)

pub returns : goal.returns
returns c =
    let bs = c.args.self.now.bytes.now in
    let e : c.loop-row.row ≡ entries_in bs = omega (arith, c.entries-row-end.ensures, ap entries_in c.image.ensures, c.loop-row-test.false, c.loop-row.auto.row-end) in
    c.loop-row.invariant.0 ∙ ap (λ k. below c.args.quay (flat_map members (map (row_in bs) (range_with_len 0 k)))) e
