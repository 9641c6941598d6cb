-- The answer tells what a typed line says. Assumes nothing.
use Rattle.std.proofs.Common.{◌≡◌, ℕ, ◌<◌, ◌≤◌, cond, eqb, ltb, ◌⊎◌, List, [], ◌∷◌, length, get_or, take, Some, None, Ok, Err, Option, Result, sym, refl, ap, ◌∙◌, subst, inl, inr, ⊎_elim, arith}
use Rattle.std.proofs.lemmas.Bool.{cases_lt, lt-ltb, le-ltb, ne_eqb, cond-true, cond-false}
use Rattle.timetable.specs.declared.refusal.Refusal.{Refusal}
use Rattle.timetable.specs.declared.refusal.Refusal.TheVariants.{NoLetter, NoNumber, Surplus, LongLine}
use Rattle.timetable.specs.declared.call.Call.{Call}
use Rattle.timetable.specs.declared.call.Call.TheVariants.{Withhold, Release, Shut, Open, Thin, Route}
use Rattle.typed.specs.Commands.{by_letter, command_of}
use Rattle.typed.specs.Forms.{letter_of, numbers_of, due}
use Rattle.typed.specs.Saying.{Begins, Asks, Misses, Exceeds, Says}
use Rattle.typed.proofs.Counted.{numbers, read_stand, stand_read, few_tells, few_told, many_tells, many_told, wrong}
use Rattle.typed.proofs.Lettering.{numbers_in, Way, way}

-- a command by its letter and its numbers
abbrev back : ℕ → List ℕ → Call
back letter vs =
    cond (eqb letter 87) (Withhold (get_or vs 0 0))
    (cond (eqb letter 82) (Release (get_or vs 0 0))
    (cond (eqb letter 83) (Shut (get_or vs 0 0))
    (cond (eqb letter 79) (Open (get_or vs 0 0))
    (cond (eqb letter 84) Thin (Route (record { from = get_or vs 0 0; to = get_or vs 1 0; minute = get_or vs 2 0; class = get_or vs 3 0 }))))))

back_is : (c : Call) → back (letter_of c) (numbers_of c) ≡ c
back_is (Withhold run) = refl
back_is (Release run) = refl
back_is (Shut quay) = refl
back_is (Open quay) = refl
back_is Thin = refl
back_is (Route q) = refl

due_is : (c : Call) → due (letter_of c) ≡ Some (length (numbers_of c))
due_is (Withhold run) = refl
due_is (Release run) = refl
due_is (Shut quay) = refl
due_is (Open quay) = refl
due_is Thin = refl
due_is (Route q) = refl

-- letter and numbers make the command
same_command : (c d : Call) → letter_of c ≡ letter_of d → numbers_of c ≡ numbers_of d → c ≡ d
same_command c d l v = sym (back_is c) ∙ (ap (λ k. back k (numbers_of c)) l ∙ (ap (back (letter_of d)) v ∙ back_is d))

same_first : (line : List ℕ) (letter : ℕ) → take 1 line ≡ letter ∷ [] → get_or line 0 0 ≡ letter
same_first [] letter h = let z : ◌≡◌ {A = ℕ} 0 1 = cc in absurd (omega arith)
same_first (x ∷ xs) letter h = cc

begins-due : (line : List ℕ) (letter n : ℕ) → Begins line letter n → due (get_or line 0 0) ≡ Some n
begins-due line letter n b = ap due (same_first line letter b.first) ∙ b.is_due

same_some : (m n : ℕ) (d : Option ℕ) → d ≡ Some m → d ≡ Some n → m ≡ n
same_some m n d p q = cc

some_none : (n : ℕ) (d : Option ℕ) → d ≡ Some n → d ≡ None → ⊥
some_none n d p q = let z : ◌≡◌ {A = ℕ} 0 1 = cc in omega arith

ok_err : (r : Result Call Refusal) (c : Call) (e : Refusal) → r ≡ Ok c → r ≡ Err e → ⊥
ok_err r c e p q = let z : ◌≡◌ {A = ℕ} 0 1 = cc in omega arith

long_letter : (r : Result Call Refusal) → r ≡ Err LongLine → r ≡ Err NoLetter → ⊥
long_letter r p q = let z : ◌≡◌ {A = ℕ} 0 1 = cc in omega arith

long_number : (r : Result Call Refusal) → r ≡ Err LongLine → r ≡ Err NoNumber → ⊥
long_number r p q = let z : ◌≡◌ {A = ℕ} 0 1 = cc in omega arith

long_surplus : (r : Result Call Refusal) → r ≡ Err LongLine → r ≡ Err Surplus → ⊥
long_surplus r p q = let z : ◌≡◌ {A = ℕ} 0 1 = cc in omega arith

letter_number : (r : Result Call Refusal) → r ≡ Err NoLetter → r ≡ Err NoNumber → ⊥
letter_number r p q = let z : ◌≡◌ {A = ℕ} 0 1 = cc in omega arith

letter_surplus : (r : Result Call Refusal) → r ≡ Err NoLetter → r ≡ Err Surplus → ⊥
letter_surplus r p q = let z : ◌≡◌ {A = ℕ} 0 1 = cc in omega arith

too_long : (line : List ℕ) (letter n : ℕ) → 64 < length line → Begins line letter n → ⊥
too_long line letter n l b = omega (arith, b.short)

long_says : (line : List ℕ) (r : Result Call Refusal) → r ≡ Err LongLine → 64 < length line → Says line r
long_says line r e l = record {
  asks = λ c. (λ h. absurd (ok_err r c LongLine h e), λ a. absurd (too_long line _ _ l a.begins));
  long = (λ h. l, λ h. e);
  unlettered = (λ h. absurd (long_letter r e h), λ u. absurd (omega (arith, u.short)));
  misses = (λ h. absurd (long_number r e h), λ m. absurd (too_long line _ _ l m.begins));
  exceeds = (λ h. absurd (long_surplus r e h), λ m. absurd (too_long line _ _ l m.begins));
}

unlettered_says : (line : List ℕ) (r : Result Call Refusal) → r ≡ Err NoLetter → length line ≤ 64 → due (get_or line 0 0) ≡ None → Says line r
unlettered_says line r e l d = record {
  asks = λ c. (λ h. absurd (ok_err r c NoLetter h e), λ a. absurd (some_none _ _ (begins-due line _ _ a.begins) d));
  long = (λ h. absurd (long_letter r h e), λ h. absurd (omega arith));
  unlettered = (λ h. record { short = l; none = inr d }, λ h. e);
  misses = (λ h. absurd (letter_number r e h), λ m. absurd (some_none _ _ (begins-due line _ _ m.begins) d));
  exceeds = (λ h. absurd (letter_surplus r e h), λ m. absurd (some_none _ _ (begins-due line _ _ m.begins) d));
}

numbers_err : (r : Result Call Refusal) (e : Refusal) → numbers_in r ≡ Err e → r ≡ Err e
numbers_err (Ok c) e h = let z : ◌≡◌ {A = ℕ} 0 1 = cc in absurd (omega arith)
numbers_err (Err d) e h = cc

numbers_ok : (r : Result Call Refusal) (c : Call) (letter : ℕ) → ((d : Call) → r ≡ Ok d → letter_of d ≡ letter) → letter_of c ≡ letter → numbers_in r ≡ Ok (numbers_of c) → r ≡ Ok c
numbers_ok (Ok d) c letter l k h = ap Ok (same_command d c (l d refl ∙ sym k) (same (numbers_of d) (numbers_of c) h))
  where
    same : (x y : List ℕ) → ◌≡◌ {A = Result (List ℕ) Refusal} (Ok x) (Ok y) → x ≡ y
    same x y q = cc
numbers_ok (Err e) c letter l k h = let z : ◌≡◌ {A = ℕ} 0 1 = cc in absurd (omega arith)

lettered_says : (line : List ℕ) (r : Result Call Refusal) (n : ℕ) → length line ≤ 64 → due (get_or line 0 0) ≡ Some n → Way line (get_or line 0 0) (Some n) r → Says line r
lettered_says [] r n l d w = absurd (some_none n (due 0) d refl)
lettered_says (x ∷ xs) r n l d w = record {
  asks = λ c. (told c, asked c);
  long = (λ h. absurd (not_long (wrong (x ∷ xs) n 1 LongLine (refused LongLine h))), λ h. absurd (omega arith));
  unlettered = (λ h. absurd (not_letter (wrong (x ∷ xs) n 1 NoLetter (refused NoLetter h))), λ u. absurd (lettered u.none));
  misses = (
    missing,
    λ m.
        numbers_err r NoNumber (w.0 ∙ few_told (x ∷ xs) m.read n 1 m.at m.stand (subst (λ k. length m.read < k) (counts m.letter m.count m.begins) m.fewer) m.none),
  );
  exceeds = (exceeding, λ m. numbers_err r Surplus (w.0 ∙ many_told (x ∷ xs) m.read n 1 m.at m.stand (m.all ∙ counts m.letter m.count m.begins) m.more));
}
  where
    counts : (letter count : ℕ) → Begins (x ∷ xs) letter count → count ≡ n
    counts letter count b = same_some count n (due x) (begins-due (x ∷ xs) letter count b) d

    refused : (e : Refusal) → r ≡ Err e → numbers (x ∷ xs) 1 n ≡ Err e
    refused e h = sym w.0 ∙ ap numbers_in h

    not_long : (LongLine ≡ NoNumber) ⊎ (LongLine ≡ Surplus) → ⊥
    not_long (inl h) = let z : ◌≡◌ {A = ℕ} 0 1 = cc in omega arith
    not_long (inr h) = let z : ◌≡◌ {A = ℕ} 0 1 = cc in omega arith

    not_letter : (NoLetter ≡ NoNumber) ⊎ (NoLetter ≡ Surplus) → ⊥
    not_letter (inl h) = let z : ◌≡◌ {A = ℕ} 0 1 = cc in omega arith
    not_letter (inr h) = let z : ◌≡◌ {A = ℕ} 0 1 = cc in omega arith

    lettered : ((x ∷ xs) ≡ []) ⊎ (due x ≡ None) → ⊥
    lettered (inl h) = let z : ◌≡◌ {A = ℕ} 0 1 = cc in omega arith
    lettered (inr h) = some_none n (due x) d h

    told : (c : Call) → r ≡ Ok c → Asks (x ∷ xs) c
    told c h = record {
      begins = record { short = l; first = ap (λ k. k ∷ []) (sym (w.1 c h)); is_due = due_is c };
      stand = read_stand (x ∷ xs) n 1 (numbers_of c) (sym w.0 ∙ ap numbers_in h);
    }

    asked : (c : Call) → Asks (x ∷ xs) c → r ≡ Ok c
    asked c a =
        numbers_ok r c x w.1 (sym (same_first (x ∷ xs) (letter_of c) a.begins.first))
        (w.0 ∙ (ap (numbers (x ∷ xs) 1) (sym (counts (letter_of c) (length (numbers_of c)) a.begins)) ∙ stand_read (x ∷ xs) (numbers_of c) 1 a.stand))

    missing : r ≡ Err NoNumber → Misses (x ∷ xs)
    missing h =
        let f = few_tells (x ∷ xs) n 1 (refused NoNumber h) in
        record { letter = x; count = n; read = f.read; at = f.end; begins = record { short = l; first = refl; is_due = d }; stand = f.stand; fewer = f.fewer; none = f.none }

    exceeding : r ≡ Err Surplus → Exceeds (x ∷ xs)
    exceeding h =
        let f = many_tells (x ∷ xs) n 1 (omega arith) (refused Surplus h) in
        record { letter = x; count = n; read = f.read; at = f.end; begins = record { short = l; first = refl; is_due = d }; stand = f.stand; all = f.all; more = f.more }

short_read : (line : List ℕ) → length line ≤ 64 → command_of line ≡ by_letter (get_or line 0 0) line
short_read [] h = refl
short_read (x ∷ xs) h =
    cond-false (ltb 64 (length (x ∷ xs))) (Err LongLine) _ (le-ltb 64 (length (x ∷ xs)) h)
    ∙ cond-false (eqb (length (x ∷ xs)) 0) (Err NoLetter) (by_letter x (x ∷ xs)) (ne_eqb (length (x ∷ xs)) 0 (λ e. omega arith))

short_says : (line : List ℕ) → length line ≤ 64 → Says line (command_of line)
short_says line l = subst (λ r. Says line r) (sym (short_read line l)) (go (due (get_or line 0 0)) refl (way line (get_or line 0 0)))
  where
    go : (d : Option ℕ) → due (get_or line 0 0) ≡ d → Way line (get_or line 0 0) d (by_letter (get_or line 0 0) line) → Says line (by_letter (get_or line 0 0) line)
    go None e w = unlettered_says line (by_letter (get_or line 0 0) line) w l e
    go (Some n) e w = lettered_says line (by_letter (get_or line 0 0) line) n l e w

pub says : (line : List ℕ) → Says line (command_of line)
says line =
    ⊎_elim (λ l. long_says line (command_of line) (cond-true (ltb 64 (length line)) (Err LongLine) _ (lt-ltb 64 (length line) l)) l) (short_says line) (cases_lt 64 (length line))
