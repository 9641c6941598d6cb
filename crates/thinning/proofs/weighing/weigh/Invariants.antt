use Rattle.std.proofs.Common.{◌≡◌, ℕ, ◌<◌, length, get_or, None}
use Rattle.timetable.specs.Timetables.{place_at}
use Rattle.thinning.specs.Weights.{standing_from}
use Rattle.thinning.proofs.weighing.weigh.Given as goal

abbrev pub invariant-loop-place : goal.invariant-loop-place
invariant-loop-place g l =
    let t = g.B.Book.meaning l.book in
    (length l.rows ≡ 3072) × ((k : ℕ) → k < l.place → get_or l.rows k None ≡ standing_from t k (place_at t k))
