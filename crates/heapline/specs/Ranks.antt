-- The rank of a waiting item: by key, then by item. Assumes nothing.
use Rattle.std.specs.Prelude.{ℕ, ◌+◌, ◌*◌}
use Rattle.heapline.specs.declared.entry.Waiting.{Waiting}

abbrev pub rank_of_waiting : Waiting → ℕ
rank_of_waiting w = w.key * 65536 + w.item
