use Rattle.std.proofs.Common.{◌+◌, ◌-◌, ◌≤◌, map, length, get_or, drop, Some, None, sym, refl, ap, ◌∙◌, arith}
use Rattle.std.specs.List.{flat_map}
use Rattle.std.proofs.lemmas.List.FromFn.{length-map-range_with_len}
use Rattle.std.proofs.lemmas.List.{at_drop_all}
use Rattle.image.specs.Records.{entries_in, series_of}
use Rattle.image.specs.Meanings.{members}
use Rattle.image.proofs.Clocks.{row_in, member_ready, member_found, member_passed}
use Rattle.books.proofs.clock_face.ClockFace.member_at.Goals as goal

pub member_of-requires : goal.member_of-requires
member_of-requires c =
    member_ready c.args.self.now.bytes.now c.loop-row.row (omega (arith, c.entries-row-end.ensures, ap entries_in c.image.ensures, c.loop-row-test.true)) c.series.result c.series.ensures c.args.self.now.sound c.loop-row.left
    (omega (arith, c.members-count.ensures, c.if-left-count.true, ap (λ s. s.count) c.series.ensures))

pub returns-then-left-count : goal.returns-then-left-count
returns-then-left-count c =
    ap Some c.member_of.ensures
    ∙ sym (member_found c.args.self.now.bytes.now c.loop-row.row (omega (arith, c.entries-row-end.ensures, ap entries_in c.image.ensures, c.loop-row-test.true)) c.series.result c.series.ensures c.loop-row.left
    (omega (arith, c.members-count.ensures, c.if-left-count.true, ap (λ s. s.count) c.series.ensures)))
    ∙ c.loop-row.invariant

pub loop-row-preserved : goal.loop-row-preserved
loop-row-preserved c =
    let bs = c.args.self.now.bytes.now in
    let row = c.loop-row.row in
    let rest = map Some (flat_map members (drop (row + 1) (series_of bs))) in
    ap (λ k. get_or rest (c.loop-row.left - k) None) c.members-count.ensures
    ∙ sym (member_passed bs row (omega (arith, c.entries-row-end.ensures, ap entries_in c.image.ensures, c.loop-row-test.true)) (row_in bs row) refl c.loop-row.left (omega (arith, c.members-count.ensures, c.if-left-count.false)))
    ∙ c.loop-row.invariant

pub returns : goal.returns
returns c =
    let bs = c.args.self.now.bytes.now in
    let l : length (series_of bs) ≤ c.loop-row.row = omega (arith, length-map-range_with_len (row_in bs) 0 (entries_in bs), c.entries-row-end.ensures, ap entries_in c.image.ensures, c.loop-row-test.false) in
    sym (at_drop_all (λ xs. get_or (map Some (flat_map members xs)) c.loop-row.left None) (series_of bs) c.loop-row.row l) ∙ c.loop-row.invariant
