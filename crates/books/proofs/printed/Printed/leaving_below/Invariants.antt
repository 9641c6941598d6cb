use Rattle.std.proofs.Common.{ℕ, ◌-◌, ◌<◌, ◌≤◌}
use Rattle.image.specs.Records.{entries_in}
use Rattle.image.proofs.Prints.{from_in}
use Rattle.books.proofs.printed.Printed.leaving_below.Given as goal

abbrev pub invariant-loop-lo : goal.invariant-loop-lo
invariant-loop-lo l =
    let bs = l.self.bytes.now in
    (l.lo ≤ l.hi) × (l.hi ≤ entries_in bs)
    × ((k : ℕ) → k < l.lo → from_in bs k < l.quay)
    × ((k : ℕ) → l.hi ≤ k → k < entries_in bs → l.quay ≤ from_in bs k)

abbrev pub decreases-loop-lo : goal.decreases-loop-lo
decreases-loop-lo l = l.hi - l.lo
