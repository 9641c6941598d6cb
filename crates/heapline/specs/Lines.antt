-- What a heap line means, and how an item is put into its heap. Assumes nothing.
use Rattle.std.specs.Prelude.{◌≡◌, ℕ, ◌+◌, ◌*◌, ◌≤◌, List, length, Some, None, Option, Result, refl}
use Rattle.arrayvec.specs.ArrayVec.{array_vec_len}
use Rattle.timetable.specs.declared.refusal.Refusal.{Refusal}
use Rattle.queue.specs.Lines.{most_items}
use Rattle.heap.specs.Heaps.{AddsTo, ReplacesIn}
use Rattle.heapline.specs.declared.entry.Waiting.{Waiting}
use Rattle.heapline.specs.declared.line.HeapLine.{HeapLine}
use Rattle.heapline.specs.Ranks.{rank_of_waiting}

-- the keys
abbrev pub keys_of : HeapLine → List (Option ℕ)
keys_of h = h.keys.items

pub line_size : (h : HeapLine) → length (keys_of h) ≡ array_vec_len h.keys
line_size h = refl

pub line_few : (h : HeapLine) → length (keys_of h) ≤ most_items
line_few h = h.few

-- An item that had no key is added, and one that had takes the place of what ranks by that key:
-- n entries of the rows `old` become m of the rows `new`.
abbrev pub Places : List Waiting → ℕ → Option ℕ → Waiting → List Waiting → ℕ → Result Unit Refusal → Type 0
Places old n None w new m r = AddsTo rank_of_waiting old n w new m r
Places old n (Some key) w new m r = ReplacesIn rank_of_waiting old n (key * 65536 + w.item) w new m r
