-- How late a journey can be. Assumes nothing.
use Rattle.std.specs.Prelude.{ℕ}

-- the last minute of a day, the longest wait for a sailing, and the longest sailing
abbrev pub last_minute : ℕ
last_minute = 1439

-- the longest change: the longest change time, and the most that a class adds
abbrev pub long_change : ℕ
long_change = 1484

-- the most that one leg takes: a change, a wait and the sailing
abbrev pub long_leg : ℕ
long_leg = 4362

-- the latest that an earliest journey can arrive: begun at the last minute of the day, with a leg for each of 3,072 places
abbrev pub latest : ℕ
latest = 13401503
