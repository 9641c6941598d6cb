-- When a sailing leaves and how long it takes. Assumes nothing.
use Rattle.std.specs.Prelude.{◌≡◌, ℕ, ◌+◌, ◌-◌, ◌*◌, ◌/◌, ◌%◌, ◌<◌, ◌≤◌, Bool, ◌&&◌, ◌==◌}
use Rattle.timetable.specs.declared.sailing.Sailing.{Sailing}

-- the minutes of a day
abbrev pub day : ℕ
day = 1440

-- the minutes from departure to arrival: the cycle difference (arr - dep) mod 1440
unfoldable pub length_of : Sailing → ℕ
length_of s = (s.arr + (day - s.dep % day)) % day

-- what a length has to be: less than a day, and arr is dep and the length later, modulo the day
pub record Cycle (s : Sailing) (n : ℕ) : Type 0 where
  pub short : n < day
  pub arrives : (s.dep + n) % day ≡ s.arr % day

-- s leaves at minute m, counted from midnight of day 0: on some day
pub record Leaves (s : Sailing) (m : ℕ) : Type 0 where
  pub on : ℕ
  pub minute : m ≡ day * on + s.dep

-- the next departure of s at or after minute u
unfoldable pub next : Sailing → ℕ → ℕ
next s u = s.dep + day * ((u - s.dep + (day - 1)) / day)

-- what a next departure has to be: of the minutes not below u at which s leaves, the least
pub record Next (s : Sailing) (u m : ℕ) : Type 0 where
  pub leaves : Leaves s m
  pub late : u ≤ m
  pub least : (k : ℕ) → Leaves s k → u ≤ k → m ≤ k

-- the laws of the next departures of s, by which all else reasons of them; the last two want a departure within the day
pub record Departures (s : Sailing) : Type 0 where
  pub each : (u : ℕ) → Next s u (next s u)
  pub monotone : (u v : ℕ) → u ≤ v → next s u ≤ next s v
  pub shifts : s.dep < day → (u : ℕ) → next s (u + day) ≡ next s u + day
  pub waits : s.dep < day → (u : ℕ) → next s u ≤ u + 1439

-- s goes on with the run of r, from the quay where r ends
pub record Continues (s r : Sailing) : Type 0 where
  pub same_run : s.run ≡ r.run
  pub next_leg : s.leg ≡ r.leg + 1
  pub same_quay : s.from ≡ r.to

unfoldable pub continues : Sailing → Sailing → Bool
continues s r = s.run == r.run && (s.leg == r.leg + 1 && s.from == r.to)
