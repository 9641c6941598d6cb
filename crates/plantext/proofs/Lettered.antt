-- A line begins with its letter, or is refused; what is read after the letter is then what the line says. Assumes nothing.
use Rattle.std.proofs.Common.{◌≡◌, ℕ, ◌<◌, ◌≤◌, eqb, ltb, ◌⊎◌, List, [], ◌∷◌, length, get_or, take, Ok, Err, Result, sym, refl, ap, ◌∙◌, inl, inr, arith}
use Rattle.std.proofs.lemmas.Bool.{cond_both, ltb-true, ltb-false, eqb-true, eqb-false}
use Rattle.timetable.specs.declared.refusal.Refusal.{Refusal}
use Rattle.timetable.specs.declared.refusal.Refusal.TheVariants.{NoLetter, NoNumber, Surplus, LongLine}
use Rattle.typed.specs.Fields.{and_then}
use Rattle.plantext.specs.Lines.{lettered}
use Rattle.plantext.specs.Standing.{Begins}
use Rattle.plantext.specs.Saying.{Is, Fault, Answers, Says}

none_in_front : (line : List ℕ) (letter : ℕ) → length line ≡ 0 → take 1 line ≡ letter ∷ [] → ⊥
none_in_front [] letter e h = let z : ◌≡◌ {A = ℕ} 0 1 = cc in omega arith
none_in_front (x ∷ xs) letter e h = omega arith

other_in_front : (line : List ℕ) (letter : ℕ) → (get_or line 0 0 ≡ letter → ⊥) → take 1 line ≡ letter ∷ [] → ⊥
other_in_front [] letter n h = let z : ◌≡◌ {A = ℕ} 0 1 = cc in omega arith
other_in_front (x ∷ xs) letter n h = n (cc)

in_front : (line : List ℕ) (letter : ℕ) → (length line ≡ 0 → ⊥) → get_or line 0 0 ≡ letter → take 1 line ≡ letter ∷ []
in_front [] letter n h = absurd (n refl)
in_front (x ∷ xs) letter n h = ap (λ y. y ∷ []) h

-- the first byte, by the front
pub first_byte : (line : List ℕ) (letter : ℕ) → take 1 line ≡ letter ∷ [] → (length line ≡ 0 → ⊥) × (get_or line 0 0 ≡ letter)
first_byte [] letter h = let z : ◌≡◌ {A = ℕ} 0 1 = cc in absurd (omega arith)
first_byte (x ∷ xs) letter h = ((λ e. omega arith), cc)

module _ (line : List ℕ) (letter : ℕ) where
  -- what the test of the letter tells
  abbrev Means : Result (Unit {0}) Refusal → Type 0
  Means (Ok u) = Begins line letter
  Means (Err e) = Is LongLine (64 < length line) e ⊎ Is NoLetter ((length line ≤ 64) × (take 1 line ≡ letter ∷ [] → ⊥)) e

  letter_means : Means (lettered line letter)
  letter_means =
      cond_both (ltb 64 (length line)) _ _ Means
      (λ a. inl (ltb-true 64 (length line) a, refl))
      (λ a. let short = ltb-false 64 (length line) a in
      cond_both (eqb (length line) 0) _ _ Means
      (λ b. inr ((short, none_in_front line letter (eqb-true (length line) 0 b)), refl))
      (λ b. cond_both (eqb (get_or line 0 0) letter) _ _ Means
      (λ c. (short, in_front line letter (eqb-false (length line) 0 b) (eqb-true (get_or line 0 0) letter c)))
      (λ c. inr ((short, other_in_front line letter (eqb-false (get_or line 0 0) letter c)), refl))))

  pub begins_from : (u : Unit {0}) → Ok u ≡ lettered line letter → Begins line letter
  begins_from u h = go (lettered line letter) letter_means h
    where
      go : (l : Result (Unit {0}) Refusal) → Means l → Ok u ≡ l → Begins line letter
      go (Ok v) b e = b
      go (Err f) b e = let z : ◌≡◌ {A = ℕ} 0 1 = cc in absurd (omega arith)

  module _ {X : Type 0} (Stands : X → Type 0) (Missing Exceeding : Type 0) where
    -- what can be wrong after the letter
    abbrev pub After : Refusal → Type 0
    After e = Is NoNumber Missing e ⊎ Is Surplus Exceeding e

    wider : Begins line letter → (o : Result X Refusal) → Answers Stands After o → Answers Stands (Fault line letter Missing Exceeding) o
    wider b (Ok x) h = h
    wider b (Err e) (inl (m, q)) = inr (inr (inl ((b, m), q)))
    wider b (Err e) (inr (m, q)) = inr (inr (inr ((b, m), q)))

    narrower : Begins line letter → (o : Result X Refusal) → Answers Stands (Fault line letter Missing Exceeding) o → Answers Stands After o
    narrower b (Ok x) h = h
    narrower b (Err e) (inl (long, q)) = absurd (omega (arith, long, b.0))
    narrower b (Err e) (inr (inl (m, q))) = absurd (m.1 b.1)
    narrower b (Err e) (inr (inr (inl (m, q)))) = inl (m.1, q)
    narrower b (Err e) (inr (inr (inr (m, q)))) = inr (m.1, q)

    same_refusal : (e f g : Refusal) → e ≡ g → f ≡ g → ◌≡◌ {A = Result X Refusal} (Err e) (Err f)
    same_refusal e f g p q = ap Err (p ∙ sym q)

    -- what is read after the letter decides what the line says
    pub says_line : (inner : Result X Refusal) → ((x : X) → Stands x → Begins line letter) → (Begins line letter → Says Stands After inner)
        → Says Stands (Fault line letter Missing Exceeding) (and_then (lettered line letter) (λ _. inner))
    says_line inner begins after = go (lettered line letter) letter_means
      where
        go : (l : Result (Unit {0}) Refusal) → Means l → Says Stands (Fault line letter Missing Exceeding) (and_then l (λ _. inner))
        go (Ok u) b = record { right = wider b inner (after b).right; only = λ o h. (after b).only o (narrower b o h) }
        go (Err e) (inl (long, q)) = record { right = inl (long, q); only = other }
          where
            other : (o : Result X Refusal) → Answers Stands (Fault line letter Missing Exceeding) o → o ≡ Err e
            other (Ok x) h = absurd (omega (arith, long, (begins x h).0))
            other (Err f) (inl (m, p)) = same_refusal f e LongLine p q
            other (Err f) (inr (inl (m, p))) = absurd (omega (arith, long, m.0))
            other (Err f) (inr (inr (inl (m, p)))) = absurd (omega (arith, long, m.0.0))
            other (Err f) (inr (inr (inr (m, p)))) = absurd (omega (arith, long, m.0.0))
        go (Err e) (inr (n, q)) = record { right = inr (inl (n, q)); only = other }
          where
            other : (o : Result X Refusal) → Answers Stands (Fault line letter Missing Exceeding) o → o ≡ Err e
            other (Ok x) h = absurd (n.1 (begins x h).1)
            other (Err f) (inl (m, p)) = absurd (omega (arith, m, n.0))
            other (Err f) (inr (inl (m, p))) = same_refusal f e NoLetter p q
            other (Err f) (inr (inr (inl (m, p)))) = absurd (n.1 m.0.1)
            other (Err f) (inr (inr (inr (m, p)))) = absurd (n.1 m.0.1)
