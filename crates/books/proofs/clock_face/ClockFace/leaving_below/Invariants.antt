use Rattle.std.proofs.Common.{◌≡◌, ◌≤◌, map}
use Rattle.std.specs.List.{range_with_len, flat_map}
use Rattle.image.specs.Checks.{places_to}
use Rattle.image.specs.Records.{quays_in}
use Rattle.image.specs.Meanings.{below, members}
use Rattle.image.proofs.Clocks.{row_in}
use Rattle.books.proofs.clock_face.ClockFace.leaving_below.Given as goal

abbrev pub invariant-loop-row : goal.invariant-loop-row
invariant-loop-row l =
    let bs = l.self.bytes.now in
    (l.sum ≡ below l.quay (flat_map members (map (row_in bs) (range_with_len 0 l.row)))) × (l.sum ≤ places_to bs (quays_in bs) l.row)
