-- What a layer answers of a place. Assumes nothing.
use Rattle.std.proofs.Common.{◌≡◌, Bool, true, false, not, cond, MatchOption, refl, Some, None, Option, ap, ◌∙◌}
use Rattle.std.specs.Bool.{then_some}
use Rattle.timetable.specs.declared.sailing.Sailing.{Sailing}
use Rattle.timetable.specs.Hiding.{blanked}

-- a filter by a closure that answers what is not hidden
pub filtered : (f : Sailing → Bool) (P : Sailing → Bool → Type 0) → ((s : Sailing) (b : Bool) → P s b → b ≡ not (f s)) → (there r : Option Sailing) →
    MatchOption there (r ≡ None) (λ s. (b : Bool) × P s b × (r ≡ then_some b s)) → r ≡ blanked f there
filtered f P says None r h = h
filtered f P says (Some s) r h = h.2 ∙ ap (λ (b : Bool). then_some b s) (says s h.0 h.1) ∙ shown (f s)
  where
    shown : (b : Bool) → then_some (not b) s ≡ cond b None (Some s)
    shown true = refl
    shown false = refl
