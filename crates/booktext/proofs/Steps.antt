-- Readings that go on step by step. Assumes nothing.
use Rattle.std.proofs.Common.{◌≡◌, ℕ, Bool, true, false, cond, List, Some, None, Ok, Err, Option, Result, refl, ap, ◌∙◌, arith}
use Rattle.std.specs.Option.{ok_or}
use Rattle.numerals.specs.declared.field.Field.{Field}
use Rattle.numerals.specs.Numbers.{number_at, Numeral}
use Rattle.numerals.specs.Times.{time_at, TimeOfDay}
use Rattle.numerals.proofs.Standing.{number_tells, number_told}
use Rattle.numerals.proofs.Clocks.{time_tells, time_told}
use Rattle.booktext.specs.declared.entry.LineFault.{LineFault}
use Rattle.booktext.specs.declared.entry.LineFault.TheVariants.{NoNumber, NoTime}
use Rattle.booktext.specs.Fields.{number_here, time_here, and_then}

-- what an answer came of: the step before gave something, and the next made the answer of it
pub record Came {X Y : Type 0} (r : Result X LineFault) (k : X → Result Y LineFault) (y : Y) : Type 0 where
  pub mid : X
  pub first : r ≡ Ok mid
  pub then : k mid ≡ Ok y

pub came : {X Y : Type 0} (r : Result X LineFault) (k : X → Result Y LineFault) (y : Y) → and_then r k ≡ Ok y → Came r k y
came (Ok x) k y h = record { mid = x; first = refl; then = h }
came (Err e) k y h = let z : ◌≡◌ {A = ℕ} 0 1 = cc in absurd (omega arith)

pub goes : {X Y : Type 0} (r : Result X LineFault) (k : X → Result Y LineFault) (x : X) (y : Y) → r ≡ Ok x → k x ≡ Ok y → and_then r k ≡ Ok y
goes r k x y e h = ap (λ t. and_then t k) e ∙ h

pub some_from_ok : {X : Type 0} (o : Option X) (e : LineFault) (x : X) → ok_or o e ≡ Ok x → o ≡ Some x
some_from_ok None e x h = let z : ◌≡◌ {A = ℕ} 0 1 = cc in absurd (omega arith)
some_from_ok (Some y) e x h = cc

pub number_stands : (line : List ℕ) (at : ℕ) (f : Field ℕ) → number_here line at ≡ Ok f → Numeral line at f
number_stands line at f h = number_tells line at f (some_from_ok (number_at line at) (NoNumber at) f h)

pub number_here_lem : (line : List ℕ) (at : ℕ) (f : Field ℕ) → Numeral line at f → number_here line at ≡ Ok f
number_here_lem line at f h = ap (λ o. ok_or o (NoNumber at)) (number_told line at f h)

pub time_stands : (line : List ℕ) (at : ℕ) (f : Field ℕ) → time_here line at ≡ Ok f → TimeOfDay line at f
time_stands line at f h = time_tells line at f (some_from_ok (time_at line at) (NoTime at) f h)

pub time_here_lem : (line : List ℕ) (at : ℕ) (f : Field ℕ) → TimeOfDay line at f → time_here line at ≡ Ok f
time_here_lem line at f h = ap (λ o. ok_or o (NoTime at)) (time_told line at f h)

-- an answer that came of a test
pub taken : {X : Type 0} (b : Bool) (r : Result X LineFault) (e : LineFault) (x : X) → cond b r (Err e) ≡ Ok x → (b ≡ true) × (r ≡ Ok x)
taken true r e x h = (refl, h)
taken false r e x h = let z : ◌≡◌ {A = ℕ} 0 1 = cc in absurd (omega arith)

pub left : {X : Type 0} (b : Bool) (r : Result X LineFault) (e : LineFault) (x : X) → cond b (Err e) r ≡ Ok x → (b ≡ false) × (r ≡ Ok x)
left true r e x h = let z : ◌≡◌ {A = ℕ} 0 1 = cc in absurd (omega arith)
left false r e x h = (refl, h)
