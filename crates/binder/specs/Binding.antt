-- What the binder answers and writes. Assumes nothing.
use Rattle.std.specs.Prelude.{◌≡◌, ℕ, ◌+◌, ◌≤◌, cond, List, ◌++◌, map, length, take, drop, Ok, Err, Result, nat_le}
use Rattle.timetable.specs.declared.refusal.Refusal.{Refusal}
use Rattle.timetable.specs.declared.refusal.Refusal.TheVariants.{ShortBuffer}
use Rattle.timetable.specs.declared.sailing.Sailing.{Sailing}
use Rattle.image.specs.declared.fault.Fault.{Fault}
use Rattle.image.specs.declared.quay.Quay.{Quay}
use Rattle.image.specs.Checks.{Check, printed_check}
use Rattle.image.specs.Faults.{First, PrintedWrong}
use Rattle.image.specs.Images.{PrintedOf}
use Rattle.image.specs.Layout.{layout, letters, sailing_bytes}
use Rattle.image.specs.Limits.{PrintedKept}
use Rattle.binder.specs.declared.unbound.Unbound.{Unbound}
use Rattle.binder.specs.declared.unbound.Unbound.TheVariants.{Faulty, ShortImage}

-- the refusal that a book was not bound for
abbrev pub refusal_of : Unbound → Refusal
refusal_of (Faulty e) = e.refusal
refusal_of ShortImage = ShortBuffer

-- the image of a printed book
abbrev pub book_bytes : List Quay → List Sailing → List ℕ
book_bytes quays sailings = layout 1 sailing_bytes quays sailings

-- the fault that the check of the image tells, else that the buffer is too short, else the length
abbrev pub answer : Check → ℕ → ℕ → Result ℕ Unbound
answer (Ok x) len room = cond (nat_le len room) (Ok len) (Err ShortImage)
answer (Err e) len room = Err (Faulty e)

abbrev pub bound : List Quay → List Sailing → ℕ → Result ℕ Unbound
bound quays sailings room = answer (printed_check (book_bytes quays sailings)) (length (book_bytes quays sailings)) room

-- a buffer whose front is replaced
abbrev pub over : List ℕ → List ℕ → List ℕ
over front buffer = front ++ drop (length front) buffer

-- a buffer into which bytes were written from `at` on
abbrev pub written : ℕ → List ℕ → List ℕ → List ℕ
written at xs buffer = take at buffer ++ (xs ++ drop (at + length xs) buffer)

-- the binder answers with a fault exactly where it comes first of all that is wrong with the image
abbrev pub Faults : Result ℕ Unbound → List Quay → List Sailing → Fault → Type 0
Faults r quays sailings e = (r ≡ Err (Faulty e) → First (PrintedWrong (book_bytes quays sailings)) e) × (First (PrintedWrong (book_bytes quays sailings)) e → r ≡ Err (Faulty e))

-- a book within the limits is bound wherever there is room for it
abbrev pub Accepts : Result ℕ Unbound → List Quay → List Sailing → ℕ → Type 0
Accepts r quays sailings room = PrintedKept quays sailings → length (book_bytes quays sailings) ≤ room → r ≡ Ok (length (book_bytes quays sailings))

-- bytes that are the image of a printed book with just these change times, names and sailings
pub record Holds (bs : List ℕ) (quays : List Quay) (sailings : List Sailing) : Type 0 where
  pub content : PrintedOf bs
  pub same_changes : map (λ q. q.change) content.quays ≡ map (λ q. q.change) quays
  pub same_names : map (λ q. q.name) content.quays ≡ map (λ q. letters q.name) quays
  pub same_sailings : content.sailings ≡ sailings
