use Rattle.std.proofs.Common.{◌≡◌, drop}
use Rattle.routing.specs.Walk.{Walks}
use Rattle.routing.proofs.legs.write_legs.Given as goal

abbrev pub invariant-back : goal.invariant-back
invariant-back l = Walks l.labels l.initial.at l.initial.cur l.legs l.at l.cur × (drop l.initial.cur.depth l.legs ≡ drop l.initial.cur.depth l.initial.legs)

abbrev pub decreases-back : goal.decreases-back
decreases-back l = l.cur.depth
