use Rattle.std.proofs.Common.{length, take, None, sym, ap, subst, arith}
use Rattle.std.proofs.lemmas.List.{length-set}
use Rattle.heapline.specs.Tallies.{Tallies}
use Rattle.heapline.proofs.Turns as turns
use Rattle.heapline.proofs.heaped.HeapLineLine.take.Goals as goal

pub bounds-deref_mut-from : goal.bounds-deref_mut-from
bounds-deref_mut-from c =
    let h = c.args.self.now in
    let left = c.take_least.new.self in
    omega (arith, turns.taken_inside h c.in_ok-first.first left.heap.store left.heap.count c.in_ok-first.ensures, c.from.ensures, ap length c.deref_mut.ensures.value)

pub invariant_of-self-2 : goal.invariant_of-self-2
invariant_of-self-2 c =
    let h = c.args.self.now in
    let ks = h.keys.items in
    let w = c.in_ok-first.first in
    let left = c.take_least.new.self in
    let is = turns.written ks c.deref_mut.result.now w.item c.from.result None c.deref_mut.ensures.value c.from.ensures in record {
      few = omega (arith, ap length is, length-set ks w.item None, h.few);
      tallied = subst (λ k. Tallies (take left.heap.count left.heap.store) k) (sym is) (turns.taken_tallies h w left.heap.store left.heap.count c.in_ok-first.ensures);
    }

pub returns : goal.returns
returns c =
    let h = c.args.self.now in
    let w = c.in_ok-first.first in
    let left = c.take_least.new.self in (
      turns.taken_first h w left.heap.store left.heap.count c.in_ok-first.ensures,
      turns.written h.keys.items c.deref_mut.result.now w.item c.from.result None c.deref_mut.ensures.value c.from.ensures,
    )
