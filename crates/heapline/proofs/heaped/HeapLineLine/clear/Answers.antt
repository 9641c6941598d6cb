use Rattle.std.proofs.Common.{ap, length, ◌∙◌}
use Rattle.heapline.proofs.Turns as turns
use Rattle.heapline.proofs.heaped.HeapLineLine.clear.Goals as goal

pub returns : goal.returns
returns c = turns.all_idle c.args.self.now.keys.items c.erase_keys.new.keys c.erase_keys.ensures (c.erase_keys.auto.keys ∙ ap length c.deref_mut.ensures.value)
