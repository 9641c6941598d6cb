-- The labels and the line change together. Assumes nothing.
use Rattle.std.proofs.Common.{◌≡◌, ℕ, ◌<◌, true, false, cond, List, length, get_or, set, Some, None, Option, sym, ap, ◌∙◌, subst, ⊎_elim, arith}
use Rattle.std.proofs.lemmas.List.{get_or-set_same, get_or-set_other, set-get_or, length-set}
use Rattle.std.proofs.lemmas.Bool.{cases_eq, lt-ltb}
use Rattle.queue.specs.Lines.{set_in}
use Rattle.routing.specs.declared.ride.Ride.{Ride}
use Rattle.routing.specs.declared.label.Label.{Label}
use Rattle.routing.specs.declared.label.Label.TheVariants.{Unseen, Waiting}
use Rattle.routing.specs.Labels.{look, key_of, Linked, gains, reach}

pub not_sooner : (ls : List Label) (p : ℕ) (new : Ride) → false ≡ gains (look ls p) new → ls ≡ set ls p (reach (look ls p) new)
not_sooner ls p new e = sym (set-get_or ls p Unseen) ∙ ap (λ b. set ls p (cond b (Waiting new) (look ls p))) e

pub is_sooner : (ls : List Label) (p : ℕ) (new : Ride) → true ≡ gains (look ls p) new → set ls p (Waiting new) ≡ set ls p (reach (look ls p) new)
is_sooner ls p new e = ap (λ b. set ls p (cond b (Waiting new) (look ls p))) e

pub linked_set : (ls : List Label) (ks : List (Option ℕ)) (p : ℕ) (l : Label) → p < length ls → Linked ls ks → Linked (set ls p l) (set ks p (key_of l))
linked_set ls ks p l p< (size, same) = (
  omega (arith, length-set ls p l, length-set ks p (key_of l)),
  λ k. ⊎_elim
      (λ e. let Q : ℕ → Type 0 = λ j. get_or (set ks p (key_of l)) j None ≡ key_of (look (set ls p l) j) in
      subst Q (sym e) (get_or-set_same ks p (key_of l) None (omega arith) ∙ ap key_of (sym (get_or-set_same ls p l Unseen p<))))
      (λ ne. get_or-set_other ks p k (key_of l) None ne ∙ same k ∙ ap key_of (sym (get_or-set_other ls p k l Unseen ne)))
      (cases_eq k p),
)

-- an item of the line is made to wait
pub set_there : (ks : List (Option ℕ)) (p key : ℕ) → p < length ks → set_in ks p key ≡ set ks p (Some key)
set_there ks p key h = ap (λ t. cond t (set ks p (Some key)) ks) (lt-ltb p (length ks) h)
