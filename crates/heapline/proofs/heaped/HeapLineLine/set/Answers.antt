use Rattle.std.proofs.Common.{Some, Ok, Err, sym, subst, take, ap, length, arith}
use Rattle.std.proofs.lemmas.List.{length-set}
use Rattle.heapline.specs.Lines.{Places}
use Rattle.heapline.specs.Tallies.{Tallies}
use Rattle.heapline.proofs.Turns as turns
use Rattle.heapline.proofs.heaped.HeapLineLine.set.Goals as goal

-- the heap refuses nothing that the line puts into it
pub returns-in_err-place : goal.returns-in_err-place
returns-in_err-place c =
    let h = c.args.self.now in
    let ks = h.keys.items in
    let w = c.place.new.waiting in
    let was = turns.read ks c.deref.result.now c.args.item c.from.result c.deref.ensures.0 c.from.ensures in
    absurd (turns.never_refused h c.args.item c.args.key (omega (arith, c.if-item-size.false, c.size.ensures)) w.heap.store w.heap.count _
    (subst (λ b. Places h.waiting.heap.store h.waiting.heap.count b (record { key = c.args.key; item = c.args.item }) w.heap.store w.heap.count (Err c.in_err-place.field-0.0)) was c.in_err-place.ensures))

pub invariant_of-self-2 : goal.invariant_of-self-2
invariant_of-self-2 c =
    let h = c.args.self.now in
    let ks = h.keys.items in
    let w = c.place.new.waiting in
    let was = turns.read ks c.deref.result.now c.args.item c.from.result c.deref.ensures.0 c.from.ensures in
    let is = turns.written ks c.deref_mut.result.now c.args.item c.from-2.result (Some c.args.key) c.deref_mut.ensures.value c.from-2.ensures in record {
      few = omega (arith, ap length is, length-set ks c.args.item (Some c.args.key), h.few);
      tallied = subst (λ k. Tallies (take w.heap.count w.heap.store) k) (sym is) (turns.placed h c.args.item c.args.key (omega (arith, c.if-item-size.false, c.size.ensures)) w.heap.store w.heap.count c.in_ok-place.field-0
          (subst (λ b. Places h.waiting.heap.store h.waiting.heap.count b (record { key = c.args.key; item = c.args.item }) w.heap.store w.heap.count (Ok c.in_ok-place.field-0)) was c.in_ok-place.ensures));
    }
