-- Lines without their endings. Assumes nothing.
use Rattle.std.specs.Prelude.{ℕ, ◌-◌, cond, List, [], ◌∷◌, length, take, drop}
use Rattle.std.specs.Str.{bytes_eq}

-- the bytes without the last one, if that is the byte given
abbrev pub without_last : List ℕ → ℕ → List ℕ
without_last bs b = cond (bytes_eq (drop (length bs - 1) bs) (b ∷ [])) (take (length bs - 1) bs) bs

-- byte 13 belongs to the ending only where byte 10 follows it
abbrev pub bare : List ℕ → List ℕ
bare bs = cond (bytes_eq (drop (length bs - 1) bs) (10 ∷ [])) (without_last (take (length bs - 1) bs) 13) bs
