-- The bytes of a book: every record begins with its length, counting what follows these two bytes, and its kind. Assumes nothing.
use Rattle.std.specs.Prelude.{ℕ, ◌/◌, ◌%◌, List, [], ◌∷◌, ◌++◌, map, length, replicate, slice_index}
use Rattle.std.specs.List.{range_with_len, flat_map}
use Rattle.timetable.specs.declared.sailing.Sailing.{Sailing}
use Rattle.image.specs.declared.quay.Quay.{Quay}
use Rattle.image.specs.declared.series.Series.{Series}

-- a number in two bytes, the low byte first
abbrev pub two : ℕ → List ℕ
two n = n % 256 ∷ n / 256 ∷ []

-- how many quays and entries follow, and eight zero bytes
abbrev pub heading_bytes : ℕ → ℕ → ℕ → List ℕ
heading_bytes kind quays entries = two 14 ++ (two kind ++ (two quays ++ (two entries ++ replicate 8 0)))

-- the ten bytes of a name
abbrev pub letters : List ℕ → List ℕ
letters xs = map (λ i. slice_index xs i) (range_with_len 0 10)

abbrev pub quay_bytes : Quay → List ℕ
quay_bytes q = two 14 ++ (two 3 ++ (two q.change ++ letters q.name))

abbrev pub sailing_bytes : Sailing → List ℕ
sailing_bytes s = two 14 ++ (two 4 ++ (two s.run ++ (two s.leg ++ (two s.from ++ (two s.to ++ (two s.dep ++ two s.arr))))))

abbrev pub series_bytes : Series → List ℕ
series_bytes s = two 18 ++ (two 5 ++ (two s.run ++ (two s.leg ++ (two s.from ++ (two s.to ++ (two s.first ++ (two s.period ++ (two s.count ++ two s.length))))))))

-- the heading, then the quays in number order, then the entries
abbrev pub layout : {X : Type 0} → ℕ → (X → List ℕ) → List Quay → List X → List ℕ
layout kind f quays entries = heading_bytes kind (length quays) (length entries) ++ (flat_map quay_bytes quays ++ flat_map f entries)
