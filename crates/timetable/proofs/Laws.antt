-- The laws of lengths, departures and cargo classes. Assumes nothing.
use Rattle.std.proofs.Common.{◌≡◌, ℕ, zero, suc, ◌+◌, ◌-◌, ◌*◌, ◌/◌, ◌<◌, ◌≤◌, List, [], ◌∷◌, get_or, Decides, arith, lit≤}
use Rattle.std.specs.List.{AllByRecursion as All}
use Rattle.std.proofs.lemmas.Bool.Decides.{nat_tests}
use Rattle.timetable.specs.declared.sailing.Sailing.{Sailing}
use Rattle.timetable.specs.Times.{day, length_of, Cycle, Leaves, next, Next, Departures, continues, Continues}
use Rattle.timetable.specs.Classes.{figures, most, class_minutes}

pub length_cycle : (s : Sailing) → Cycle s (length_of s)
unfolding length_of
length_cycle s = record { short = omega arith; arrives = omega arith }

-- one number only can be the length
pub cycle_one : (s : Sailing) (m n : ℕ) → Cycle s m → Cycle s n → m ≡ n
cycle_one s m n a b = omega (arith, a.short, a.arrives, b.short, b.arrives)

pub next_is : (s : Sailing) (u : ℕ) → Next s u (next s u)
unfolding next
next_is s u = record {
  leaves = record { on = (u - s.dep + (day - 1)) / day; minute = omega arith };
  late = omega arith;
  least = λ k l h. let d = l.on in let e : k ≡ day * d + s.dep = l.minute in omega arith;
}

-- one minute only can be the next departure
pub next_one : (s : Sailing) (u m n : ℕ) → Next s u m → Next s u n → m ≡ n
next_one s u m n a b = omega (arith, a.least n b.leaves b.late, b.least m a.leaves a.late)

pub next-late : (s : Sailing) (u : ℕ) → u ≤ next s u
next-late s u = (next_is s u).late

pub next_leaves : (s : Sailing) (u : ℕ) → Leaves s (next s u)
next_leaves s u = (next_is s u).leaves

pub next_least : (s : Sailing) (u m : ℕ) → Leaves s m → u ≤ m → next s u ≤ m
next_least s u m l h = (next_is s u).least m l h

pub next_mono : (s : Sailing) (u v : ℕ) → u ≤ v → next s u ≤ next s v
next_mono s u v h = next_least s u (next s v) (next_leaves s v) (omega (arith, next-late s v))

pub next_shift : (s : Sailing) → s.dep < day → (u : ℕ) → next s (u + day) ≡ next s u + day
unfolding next
next_shift s h u = omega arith

pub next_soon : (s : Sailing) → s.dep < day → (u : ℕ) → next s u ≤ u + 1439
unfolding next
next_soon s h u = omega arith

pub departures : (s : Sailing) → Departures s
departures s = record { each = next_is s; monotone = next_mono s; shifts = next_shift s; waits = next_soon s }

pub continues_means : (s r : Sailing) → Decides (continues s r) (Continues s r)
unfolding continues
continues_means s r = (
  (λ h. record { same_run = grind (arith, nat_tests, h); next_leg = grind (arith, nat_tests, h); same_quay = grind (arith, nat_tests, h) }),
  λ h. let a = h.same_run in let b = h.next_leg in let c = h.same_quay in grind (arith, nat_tests, a, b, c),
)

figures-short : (xs : List ℕ) (m c : ℕ) → All (λ x. x ≤ m) xs → get_or xs c 0 ≤ m
figures-short [] m c h = omega arith
figures-short (x ∷ xs) m zero h = h.0
figures-short (x ∷ xs) m (suc c) h = figures-short xs m c h.1

-- no class adds more than the largest figure
pub class_short : (c : ℕ) → class_minutes c ≤ most
unfolding class_minutes
class_short c = figures-short figures most c (lit≤ tt, (lit≤ tt, (lit≤ tt, (lit≤ tt, (lit≤ tt, (lit≤ tt, (lit≤ tt, (lit≤ tt, tt))))))))
