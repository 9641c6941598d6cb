-- What the answer of a book tells. Assumes nothing.
use Rattle.std.proofs.Common.{◌≡◌, ℕ, ◌<◌, ◌≤◌, Bool, true, false, cond, ltb, List, length, get_or, Ok, Err, sym, refl, arith}
use Rattle.std.proofs.lemmas.List.{get_or_past}
use Rattle.std.proofs.lemmas.Bool.{ltb-true, ltb-false, lt-ltb, le-ltb}
use Rattle.timetable.specs.declared.refusal.Refusal.{Refusal}
use Rattle.timetable.specs.Answers.{asked}

pub asked_in : {X : Type 0} (xs : List X) (i : ℕ) (d : X) (e : Refusal) → i < length xs → asked xs i d e ≡ Ok (get_or xs i d)
asked_in xs i d e h = rw (lt-ltb i (length xs) h)

pub asked_out : {X : Type 0} (xs : List X) (i : ℕ) (d : X) (e : Refusal) → length xs ≤ i → asked xs i d e ≡ Err e
asked_out xs i d e h = rw (le-ltb i (length xs) h)

-- an answer is what stands in the row
pub asked_ok : {X : Type 0} (xs : List X) (i : ℕ) (d x : X) (e : Refusal) → Ok x ≡ asked xs i d e → (i < length xs) × (x ≡ get_or xs i d)
asked_ok {X} xs i d x e h = go (ltb i (length xs)) refl h
  where
    go : (t : Bool) → ltb i (length xs) ≡ t → Ok x ≡ cond t (Ok (get_or xs i d)) (Err e) → (i < length xs) × (x ≡ get_or xs i d)
    go true t good = (ltb-true _ _ t, cc)
    go false t bad = let z : ◌≡◌ {A = ℕ} 0 1 = cc in absurd (omega arith)

-- a refusal tells that there is no such row
pub asked_err : {X : Type 0} (xs : List X) (i : ℕ) (d : X) (e f : Refusal) → Err f ≡ asked xs i d e → (length xs ≤ i) × (f ≡ e)
asked_err {X} xs i d e f h = go (ltb i (length xs)) refl h
  where
    go : (t : Bool) → ltb i (length xs) ≡ t → Err f ≡ cond t (Ok (get_or xs i d)) (Err e) → (length xs ≤ i) × (f ≡ e)
    go true t bad = let z : ◌≡◌ {A = ℕ} 0 1 = cc in absurd (omega arith)
    go false t good = (ltb-false _ _ t, cc)

-- a row that is not there reads as the default
pub asked_default : {X : Type 0} (xs : List X) (i : ℕ) (d : X) (e f : Refusal) → Err f ≡ asked xs i d e → d ≡ get_or xs i d
asked_default xs i d e f h = sym (get_or_past xs i d (asked_err xs i d e f h).0)
