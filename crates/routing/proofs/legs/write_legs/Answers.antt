use Rattle.std.proofs.Common.{◌≤◌, length, refl, ◌∙◌, arith}
use Rattle.routing.proofs.Chain.{settled_inside, made_pos, walk_starts, walk_goes, walk_ends, walk_has, walk_less, walk_rest}
use Rattle.routing.proofs.legs.write_legs.Goals as goal

pub back-init : goal.back-init
back-init c = ((λ T q arrival. walk_starts T q c.args.labels.now c.args.last c.args.ride arrival c.args.legs.now c.requires.room), refl)

pub overflow_sub-cur : goal.overflow_sub-cur
overflow_sub-cur c =
    let (T, q, arrival) = c.requires.known in
    let w = c.back.invariant.0 T q arrival in
    made_pos T q c.args.labels.now c.back.at c.back.cur w.made

pub bounds-legs-cur : goal.bounds-legs-cur
bounds-legs-cur c =
    let (T, q, arrival) = c.requires.known in
    let w = c.back.invariant.0 T q arrival in
    omega (arith, made_pos T q c.args.labels.now c.back.at c.back.cur w.made, w.inside, c.requires.room, c.back.auto.legs)

pub returns-in_default : goal.returns-in_default
returns-in_default c =
    let (T, q, arrival) = c.requires.known in
    let room : c.args.ride.depth ≤ length c.back.legs = omega (arith, c.requires.room, c.back.auto.legs) in
    record {
      written = λ T₂ q₂ arrival₂. walk_ends T₂ q₂ c.args.labels.now c.args.last c.args.ride arrival₂ c.back.legs c.back.at c.back.cur room (c.back.invariant.0 T₂ q₂ arrival₂) c.in_default.is;
      rest = walk_rest T q c.args.labels.now c.args.last c.args.ride arrival c.back.legs c.back.at c.back.cur room (c.back.invariant.0 T q arrival) ∙ c.back.invariant.1;
    }

pub bounds : goal.bounds
bounds c =
    let (T, q, arrival) = c.requires.known in
    let ls = c.args.labels.now in
    let room : c.args.ride.depth ≤ length c.back.legs = omega (arith, c.requires.room, c.back.auto.legs) in
    let (rs, is) = walk_has T q ls c.args.last c.args.ride arrival c.back.legs c.back.at c.back.cur room (c.back.invariant.0 T q arrival) c.in-Some.before c.in-Some.is in
    omega (arith, settled_inside ls c.in-Some.before rs is)

pub unreachable-requires : goal.unreachable-requires
unreachable-requires c =
    let (T, q, arrival) = c.requires.known in
    let ls = c.args.labels.now in
    let room : c.args.ride.depth ≤ length c.back.legs = omega (arith, c.requires.room, c.back.auto.legs) in
    let (rs, is) = walk_has T q ls c.args.last c.args.ride arrival c.back.legs c.back.at c.back.cur room (c.back.invariant.0 T q arrival) c.in-Some.before c.in-Some.is in
    c.in_default-labels.not-Settled rs is

pub back-smaller : goal.back-smaller
back-smaller c =
    let (T, q, arrival) = c.requires.known in
    let ls = c.args.labels.now in
    let room : c.args.ride.depth ≤ length c.back.legs = omega (arith, c.requires.room, c.back.auto.legs) in
    walk_less T q ls c.args.last c.args.ride arrival c.back.legs c.back.at c.back.cur room (c.back.invariant.0 T q arrival) c.in-Some.before c.in-Settled.prior c.in-Some.is c.in-Settled.is

pub back-preserved : goal.back-preserved
back-preserved c =
    let (T, q, arrival) = c.requires.known in
    let ls = c.args.labels.now in
    let room : c.args.ride.depth ≤ length c.back.legs = omega (arith, c.requires.room, c.back.auto.legs) in (
      (λ T₂ q₂ arrival₂. walk_goes T₂ q₂ ls c.args.last c.args.ride arrival₂ c.back.legs c.back.at c.back.cur room (c.back.invariant.0 T₂ q₂ arrival₂) c.in-Some.before c.in-Settled.prior c.in-Some.is c.in-Settled.is),
      walk_rest T q ls c.args.last c.args.ride arrival c.back.legs c.back.at c.back.cur room (c.back.invariant.0 T q arrival) ∙ c.back.invariant.1,
    )
