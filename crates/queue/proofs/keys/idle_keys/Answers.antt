use Rattle.std.proofs.Common.{take, ap, ◌∙◌}
use Rattle.queue.proofs.Idle.{first_idle}
use Rattle.queue.proofs.keys.idle_keys.Goals as goal

pub returns : goal.returns
returns c = c.truncate.ensures.items ∙ ap (λ n. take n c.from-keys.result.items) c.from.ensures ∙ ap (take c.args.size) c.from-keys.ensures.0 ∙ first_idle c.args.size
