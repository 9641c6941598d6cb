-- What labels tell of their places. Assumes nothing.
use Rattle.std.specs.Prelude.{◌≡◌, ℕ, ◌+◌, ◌≤◌, Bool, true, false, cond, List, [], ◌∷◌, length, Some, None, Option, nat_lt, slice_index_or}
use Rattle.routing.specs.declared.label.Label.{Label}
use Rattle.routing.specs.declared.label.Label.TheVariants.{Unseen, Waiting, Settled}
use Rattle.routing.specs.declared.ride.Ride.{Ride}

-- nothing is known of a place past the last
abbrev pub look : List Label → ℕ → Label
look ls p = slice_index_or ls p Unseen

-- the ride of a place that has one
abbrev pub ride_of : Label → Option Ride
ride_of Unseen = None
ride_of (Waiting ride) = Some ride
ride_of (Settled ride) = Some ride

-- the ride of a place that waits
abbrev pub waiting_of : Label → Option Ride
waiting_of Unseen = None
waiting_of (Waiting ride) = Some ride
waiting_of (Settled ride) = None

-- the key with which a place waits: its arrival
abbrev pub key_of : Label → Option ℕ
key_of Unseen = None
key_of (Waiting ride) = Some ride.arrives
key_of (Settled ride) = None

-- the line holds just the places that wait, each at its arrival
abbrev pub Linked : List Label → List (Option ℕ) → Type 0
Linked ls ks = (length ls ≤ length ks) × ((p : ℕ) → slice_index_or ks p None ≡ key_of (look ls p))

-- is the place reached sooner with the ride `new`?
abbrev pub gains : Label → Ride → Bool
gains Unseen new = true
gains (Waiting ride) new = nat_lt new.leaves ride.leaves
gains (Settled ride) new = false

-- what is known of the place when it can be reached with the ride `new`
abbrev pub reach : Label → Ride → Label
reach l new = cond (gains l new) (Waiting new) l

abbrev pub one : Label → ℕ
one Unseen = 0
one (Waiting ride) = 0
one (Settled ride) = 1

-- how many places are settled
abbrev pub settled : List Label → ℕ
settled [] = 0
settled (l ∷ ls) = one l + settled ls
