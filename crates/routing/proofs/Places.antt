-- One label is written, or left as it is. Assumes nothing.
use Rattle.std.proofs.Common.{◌≡◌, ℕ, ◌<◌, true, false, List, length, set, Option, ◌∙◌, sym, subst, arith}
use Rattle.queue.specs.Lines.{set_in}
use Rattle.routing.specs.declared.label.Label.{Label}
use Rattle.routing.specs.declared.label.Label.TheVariants.{Waiting}
use Rattle.routing.specs.declared.ride.Ride.{Ride}
use Rattle.routing.specs.Labels.{look, Linked, gains, reach}
use Rattle.routing.proofs.Links.{not_sooner, is_sooner, linked_set, set_there}

module _ (labels : List Label) (p : ℕ) (ride : Ride) (ks : List (Option ℕ)) (inside : p < length labels) (linked : Linked labels ks) where
  -- the ride is no better, and the label stays
  pub stays : false ≡ gains (look labels p) ride → record { after : labels ≡ set labels p (reach (look labels p) ride); linked : Linked labels ks }
  stays worse = record { after = not_sooner labels p ride worse; linked = linked }

  -- the ride is better, and the place waits with it
  pub renewed : true ≡ gains (look labels p) ride → (ks' : List (Option ℕ)) → ks' ≡ set_in ks p ride.arrives
      → record { after : set labels p (Waiting ride) ≡ set labels p (reach (look labels p) ride); linked : Linked (set labels p (Waiting ride)) ks' }
  renewed better ks' kept = record {
    after = is_sooner labels p ride better;
    linked = subst (λ ns. Linked (set labels p (Waiting ride)) ns) (sym (kept ∙ set_there ks p ride.arrives (omega (arith, inside, linked.0)))) (linked_set labels ks p (Waiting ride) inside linked);
  }
