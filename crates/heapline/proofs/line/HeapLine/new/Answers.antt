use Rattle.std.proofs.Common.{ℕ, [], None, Option, take, length, sym, ap, subst, arith}
use Rattle.std.proofs.lemmas.List.{length-replicate}
use Rattle.queue.specs.Tables.{size_for}
use Rattle.queue.proofs.Idle.{size_fits}
use Rattle.heapline.specs.Tallies.{Tallies}
use Rattle.heapline.proofs.Turns as turns
use Rattle.heapline.proofs.line.HeapLine.new.Goals as goal

pub invariant_of-result : goal.invariant_of-result
invariant_of-result c =
    let n = size_for c.args.size in
    let keys = c.idle_keys.result.items in
    let none = c.idle_keys.ensures in record {
      few = omega (arith, ap length none, length-replicate {A = Option ℕ} n None, size_fits c.args.size);
      tallied = subst (λ k. Tallies (take k c.new.result.heap.store) keys) (sym c.new.ensures.count) (subst (Tallies []) (sym none) (turns.idle_tallies n));
    }
