-- The first item is found, one item after another. Assumes nothing.
use Rattle.std.proofs.Common.{◌≡◌, ℕ, ◌+◌, ◌<◌, Bool, true, false, cond, ltb, List, length, get_or, Some, None, Option, sym, refl, ap, ◌∙◌, ⊎_elim, arith}
use Rattle.std.proofs.lemmas.Bool.{cases_lt, ltb-true, ltb-false}
use Rattle.std.proofs.lemmas.List.{get_or_past}
use Rattle.queue.specs.Lines.{Waits, First}
use Rattle.queue.specs.Firsts.{better_of, BestBelow, FirstOf}

same_key : (a b : ℕ) → ◌≡◌ {A = Option ℕ} (Some a) (Some b) → a ≡ b
same_key a b e = cc

module _ (ks : List (Option ℕ)) (n : ℕ) where
  -- what waits at the item itself, where j is that item
  key_here : (j k m : ℕ) → j ≡ n → get_or ks n None ≡ Some m → Waits ks j k → k ≡ m
  key_here j k m s e w = same_key k m (sym w ∙ ap (λ i. get_or ks i None) s ∙ e)

  none_here : (j k : ℕ) → j ≡ n → get_or ks n None ≡ None → Waits ks j k → ⊥
  none_here j k s e w =
      let f : get_or ks n None ≡ Some k = ap (λ i. get_or ks i None) (sym s) ∙ w in
      let z : ◌≡◌ {A = ℕ} 0 1 = cc in
      omega arith

  -- the item n does not wait
  pub below_none : (best : Option (ℕ × ℕ)) → get_or ks n None ≡ None → BestBelow ks n best → BestBelow ks (n + 1) best
  below_none None e u = λ j k h w. ⊎_elim (λ lt. u j k lt w) (λ le. none_here j k (omega arith) e w) (cases_lt j n)
  below_none (Some x) e (a, b, c) = (omega arith, b, λ j k h w. ⊎_elim (λ lt. c j k lt w) (λ le. absurd (none_here j k (omega arith) e w)) (cases_lt j n))

  -- the item n waits with key m
  pub below_some : (best : Option (ℕ × ℕ)) (m : ℕ) → get_or ks n None ≡ Some m → BestBelow ks n best → BestBelow ks (n + 1) (better_of best n m)
  below_some None m e u = (
    omega arith,
    e,
    λ j k h w.
        ⊎_elim (λ lt. absurd (u j k lt w)) (λ le. let s = key_here j k m (omega arith) e w in (omega arith, λ _. omega arith)) (cases_lt j n),
  )
  below_some (Some x) m e (a, b, c) = go (ltb m x.1) refl
    where
      go : (t : Bool) → ltb m x.1 ≡ t → BestBelow ks (n + 1) (cond t (Some (n, m)) (Some x))
      go true t =
          let less = ltb-true _ _ t in (
            omega arith,
            e,
            λ j k h w.
                ⊎_elim (λ lt. let o = (c j k lt w).0 in (omega arith, λ same. absurd (omega arith)))
                (λ le. let s = key_here j k m (omega arith) e w in (omega arith, λ _. omega arith))
                (cases_lt j n),
          )
      go false t =
          let more = ltb-false _ _ t in (
            omega arith,
            b,
            λ j k h w.
                ⊎_elim (λ lt. c j k lt w)
                (λ le. let s = key_here j k m (omega arith) e w in (omega arith, λ _. omega arith))
                (cases_lt j n),
          )

inside : (ks : List (Option ℕ)) (j k : ℕ) → Waits ks j k → j < length ks
inside ks j k w = ⊎_elim (λ lt. lt)
    (λ le. let n : get_or ks j None ≡ None = get_or_past ks j None le in let z : ◌≡◌ {A = ℕ} 0 1 = cc in absurd (omega arith))
    (cases_lt j (length ks))

pub first_inside : (ks : List (Option ℕ)) (i key : ℕ) → First ks i key → i < length ks
first_inside ks i key f = inside ks i key f.waits

-- the best of all that there are
pub first_of : (ks : List (Option ℕ)) (best : Option (ℕ × ℕ)) → BestBelow ks (length ks) best → FirstOf ks best
first_of ks None u = λ j k w. u j k (inside ks j k w) w
first_of ks (Some x) (a, b, c) = record {
  waits = b;
  least = λ j k w. (c j k (inside ks j k w) w).0;
  lowest = λ j w. (c j x.1 (inside ks j x.1 w) w).1 refl;
}
