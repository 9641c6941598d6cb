-- What a table means. Assumes nothing.
use Rattle.std.specs.Prelude.{◌≡◌, ℕ, ◌≤◌, cond, List, length, Option, nat_lt, refl}
use Rattle.arrayvec.specs.ArrayVec.{array_vec_len}
use Rattle.queue.specs.declared.table.Table.{Table}
use Rattle.queue.specs.Lines.{most_items}

-- how many items a table has where n are asked for
abbrev pub size_for : ℕ → ℕ
size_for n = cond (nat_lt n most_items) n most_items

-- the keys
abbrev pub waiting : Table → List (Option ℕ)
waiting t = t.keys.items

pub table_size : (t : Table) → length (waiting t) ≡ array_vec_len t.keys
table_size t = refl

pub table_few : (t : Table) → length (waiting t) ≤ most_items
table_few t = t.few
