-- The laws of waiting lines hold. Assumes nothing.
use Rattle.std.proofs.Common.{◌≡◌, ℕ, Bool, true, false, cond, ltb, List, length, set, Some, None, Option, sym, refl, ap, ◌∙◌, arith}
use Rattle.std.proofs.lemmas.List.{length-set, length-replicate}
use Rattle.queue.specs.Lines.{Waits, First, Takes, set_in}
use Rattle.queue.specs.Laws.{LineLaws}

abbrev nothing : Option ℕ
nothing = None

set_keeps : (ks : List (Option ℕ)) (i key : ℕ) → length (set_in ks i key) ≡ length ks
set_keeps ks i key = go (ltb i (length ks))
  where
    go : (t : Bool) → length (cond t (set ks i (Some key)) ks) ≡ length ks
    go true = length-set ks i (Some key)
    go false = refl

take_keeps : (ks : List (Option ℕ)) (r : Option (ℕ × ℕ)) (after : List (Option ℕ)) → Takes ks r after → length after ≡ length ks
take_keeps ks None after h = ap length h.1
take_keeps ks (Some x) after h = ap length h.1 ∙ length-set ks x.0 None

-- there is one first item
pub first_one : (ks : List (Option ℕ)) (i k j m : ℕ) → First ks i k → First ks j m → (i ≡ j) × (k ≡ m)
first_one ks i k j m f g =
    let same : k ≡ m = omega (arith, f.least j m g.waits, g.least i k f.waits) in
    let there : Waits ks j k = g.waits ∙ ap {B = Option ℕ} Some (sym same) in
    let here : Waits ks i m = f.waits ∙ ap {B = Option ℕ} Some same in
    (omega (arith, f.lowest j there, g.lowest i here), same)

take_one : (ks : List (Option ℕ)) (r s : Option (ℕ × ℕ)) (after other : List (Option ℕ)) → Takes ks r after → Takes ks s other → (r ≡ s) × (after ≡ other)
take_one ks None None after other a b = (refl, a.1 ∙ sym b.1)
take_one ks None (Some y) after other a b = absurd (a.0 y.0 y.1 b.0.waits)
take_one ks (Some x) None after other a b = absurd (b.0 x.0 x.1 a.0.waits)
take_one ks (Some x) (Some y) after other a b =
    let (same, key) = first_one ks x.0 x.1 y.0 y.1 a.0 b.0 in (
      (λ i. Some (same i, key i)),
      a.1 ∙ ap (λ i. set ks i nothing) same ∙ sym b.1,
    )

pub line_laws : LineLaws
line_laws = record { set_keeps = set_keeps; take_keeps = take_keeps; clear_keeps = λ ks. length-replicate (length ks) nothing; take_one = take_one }
