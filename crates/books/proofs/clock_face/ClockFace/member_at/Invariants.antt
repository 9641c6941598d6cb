use Rattle.std.proofs.Common.{◌≡◌, map, get_or, drop, Some, None}
use Rattle.std.specs.List.{flat_map}
use Rattle.image.specs.Records.{series_of}
use Rattle.image.specs.Meanings.{members}
use Rattle.books.proofs.clock_face.ClockFace.member_at.Given as goal

abbrev pub invariant-loop-row : goal.invariant-loop-row
invariant-loop-row l =
    let xs = series_of l.self.bytes.now in
    get_or (map Some (flat_map members (drop l.row xs))) l.left None ≡ get_or (map Some (flat_map members xs)) l.place None
