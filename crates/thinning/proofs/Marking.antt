-- The loop that marks places, one after the other. Assumes nothing.
use Rattle.std.proofs.Common.{◌≡◌, ℕ, zero, suc, ◌+◌, ◌<◌, ◌≤◌, Bool, true, false, ◌≢◌, List, length, get_or, set, replicate, sym, refl, ap, ◌∙◌, ⊎_elim, arith, length-set, get_or-set_other, get_or-set_same, below_more}
use lib.ListN.{length-replicate}
use Rattle.std.proofs.lemmas.Bool.{cases_lt}
use Rattle.tables.specs.Lists.{many}
use Rattle.tables.proofs.Counts.{many_none, many_in, many_out}

-- places below i are marked by the test, the others not, and k are marked
pub record Marking (f : ℕ → Bool) (xs : List Bool) (i k : ℕ) : Type 0 where
  pub wide : length xs ≡ 3072
  pub done : (p : ℕ) → p < i → get_or xs p false ≡ f p
  pub rest : (p : ℕ) → i ≤ p → get_or xs p false ≡ false
  pub count : k ≡ many f i
  pub few : k ≤ i

all_false : (n p : ℕ) → get_or (replicate n false) p false ≡ false
all_false zero p = refl
all_false (suc n) zero = refl
all_false (suc n) (suc p) = all_false n p

pub marking_starts : (f : ℕ → Bool) (xs : List Bool) → xs ≡ replicate 3072 false → Marking f xs 0 0
marking_starts f xs e = rw e (record {
  wide = length-replicate 3072 false;
  done = λ p h. absurd (omega arith);
  rest = λ p h. all_false 3072 p;
  count = sym (many_none f);
  few = omega arith;
})

pub marking_set : (f : ℕ → Bool) (xs new : List Bool) (i k k' : ℕ) → Marking f xs i k → i < 3072 → true ≡ f i → new ≡ set xs i true → k' ≡ k + 1 → Marking f new (i + 1) k'
marking_set f xs new i k k' m h t e q = rw (e, q) (record {
  wide = length-set _ _ _ ∙ m.wide;
  done = below_more _ _ (λ p l. let ne : p ≢ i = omega arith in rw get_or-set_other (m.done p l)) (let lt : i < length xs = omega (arith, m.wide) in rw get_or-set_same t);
  rest = λ p l. let ne : p ≢ i = omega arith in rw get_or-set_other (m.rest p (omega arith));
  count = ap (λ n. n + 1) m.count ∙ sym (many_in f i (sym t));
  few = omega (arith, m.few);
})

pub marking_skip : (f : ℕ → Bool) (xs new : List Bool) (i k k' : ℕ) → Marking f xs i k → false ≡ f i → new ≡ xs → k' ≡ k → Marking f new (i + 1) k'
marking_skip f xs new i k k' m t e q = rw (e, q) (record {
  wide = m.wide;
  done = below_more _ _ m.done (m.rest i (omega arith) ∙ t);
  rest = λ p l. m.rest p (omega arith);
  count = m.count ∙ sym (many_out f i (sym t));
  few = omega (arith, m.few);
})

-- at the end every place has its mark, if the test fails from n on
pub marking_ends : (f : ℕ → Bool) (xs : List Bool) (i k n : ℕ) → Marking f xs i k → i ≡ n → ((p : ℕ) → n ≤ p → f p ≡ false) → (p : ℕ) → get_or xs p false ≡ f p
marking_ends f xs i k n m e past p =
    ⊎_elim (λ h. m.done p h) (λ h. m.rest p h ∙ sym (past p (omega arith))) (cases_lt p i)
