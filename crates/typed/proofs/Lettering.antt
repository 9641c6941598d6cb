-- Each letter with its numbers. Assumes nothing.
use Rattle.std.proofs.Common.{◌≡◌, ℕ, Bool, true, false, cond, eqb, List, [], ◌∷◌, length, Some, None, Ok, Err, Option, Result, sym, refl, ap, ◌∙◌, arith}
use Rattle.std.specs.Result.{result_map_both}
use Rattle.std.proofs.lemmas.Bool.{eqb-true}
use Rattle.timetable.specs.declared.refusal.Refusal.{Refusal}
use Rattle.timetable.specs.declared.refusal.Refusal.TheVariants.{NoLetter, Surplus}
use Rattle.timetable.specs.declared.query.Query.{Query}
use Rattle.numerals.specs.declared.field.Field.{Field}
use Rattle.timetable.specs.declared.call.Call.{Call}
use Rattle.timetable.specs.declared.call.Call.TheVariants.{Withhold, Release, Shut, Open, Thin, Route}
use Rattle.typed.specs.Fields.{number_here, and_then, whole, one_of, query_with, query_of}
use Rattle.typed.specs.Commands.{by_letter}
use Rattle.typed.specs.Forms.{letter_of, numbers_of, due}
use Rattle.typed.proofs.Counted.{put, numbers}

abbrev pub numbers_in : Result Call Refusal → Result (List ℕ) Refusal
numbers_in r = result_map_both numbers_of (λ e. e) r

-- what an answer to a line has to be by its letter: of none, a refusal, and of one, the numbers due with that letter
abbrev pub Way : List ℕ → ℕ → Option ℕ → Result Call Refusal → Type 0
Way line letter None r = r ≡ Err NoLetter
Way line letter (Some n) r = (numbers_in r ≡ numbers line 1 n) × ((c : Call) → r ≡ Ok c → letter_of c ≡ letter)

-- one letter, before the others
step : (line : List ℕ) (letter : ℕ) (b : Bool) (n : ℕ) (r rest : Result Call Refusal) (others : Option ℕ) → (b ≡ true → Way line letter (Some n) r) → Way line letter others rest → Way line letter (cond b (Some n) others) (cond b r rest)
step line letter true n r rest others here after = here refl
step line letter false n r rest others here after = after

same_letter : {X : Type 0} (F : X → Call) (letter : ℕ) → ((x : X) → letter_of (F x) ≡ letter) → (r : Result X Refusal) (c : Call) → result_map_both F (λ e. e) r ≡ Ok c → letter_of c ≡ letter
same_letter F letter l (Ok x) c h = ap letter_of (same (F x) c h) ∙ l x
  where
    same : (a b : Call) → ◌≡◌ {A = Result Call Refusal} (Ok a) (Ok b) → b ≡ a
    same a b e = cc
same_letter F letter l (Err e) c h = let z : ◌≡◌ {A = ℕ} 0 1 = cc in absurd (omega arith)

one_way : (line : List ℕ) (letter : ℕ) (F : ℕ → Call) → ((v : ℕ) → numbers_of (F v) ≡ v ∷ []) → ((v : ℕ) → letter_of (F v) ≡ letter) → Way line letter (Some 1) (result_map_both F (λ e. e) (one_of line))
one_way line letter F vs l = (reads (number_here line 1), same_letter F letter l (one_of line))
  where
    ends : (b : Bool) (v : ℕ) → numbers_in (result_map_both F (λ e. e) (cond b (Ok v) (Err Surplus))) ≡ put v (cond b (Ok []) (Err Surplus))
    ends true v = ap Ok (vs v)
    ends false v = refl

    reads : (h : Result (Field ℕ) Refusal) → numbers_in (result_map_both F (λ e. e) (and_then h (λ f. whole line f.next f.value))) ≡ and_then h (λ f. put f.value (numbers line f.next 0))
    reads (Ok f) = ends (eqb f.next (length line)) f.value
    reads (Err e) = refl

thin_way : (line : List ℕ) (letter : ℕ) → 84 ≡ letter → Way line letter (Some 0) (whole line 1 Thin)
thin_way line letter l = (ends (eqb 1 (length line)), of_thin (eqb 1 (length line)))
  where
    ends : (b : Bool) → numbers_in (cond b (Ok Thin) (Err Surplus)) ≡ cond b (Ok []) (Err Surplus)
    ends true = refl
    ends false = refl

    of_thin : (b : Bool) (c : Call) → cond b (Ok Thin) (Err Surplus) ≡ Ok c → letter_of c ≡ letter
    of_thin true c h = ap letter_of (same Thin c h) ∙ l
      where
        same : (a b : Call) → ◌≡◌ {A = Result Call Refusal} (Ok a) (Ok b) → b ≡ a
        same a b e = cc
    of_thin false c h = let z : ◌≡◌ {A = ℕ} 0 1 = cc in absurd (omega arith)

route_way : (line : List ℕ) (letter : ℕ) → 81 ≡ letter → Way line letter (Some 4) (result_map_both Route (λ e. e) (query_of line))
route_way line letter l = (one (number_here line 1), same_letter Route letter (λ q. l) (query_of line))
  where
    ends : (b : Bool) (q : Query) → numbers_in (result_map_both Route (λ e. e) (cond b (Ok q) (Err Surplus))) ≡ put q.from (put q.to (put q.minute (put q.class (cond b (Ok []) (Err Surplus)))))
    ends true q = refl
    ends false q = refl

    four : (from to minute : Field ℕ) (h : Result (Field ℕ) Refusal) → numbers_in (result_map_both Route (λ e. e) (and_then h (λ class. whole line class.next (query_with from to minute class)))) ≡ put from.value (put to.value (put minute.value (and_then h (λ f. put f.value (numbers line f.next 0)))))
    four from to minute (Ok class) = ends (eqb class.next (length line)) (query_with from to minute class)
    four from to minute (Err e) = refl

    three : (from to : Field ℕ) (h : Result (Field ℕ) Refusal) → numbers_in (result_map_both Route (λ e. e) (and_then h (λ minute. and_then (number_here line minute.next) (λ class. whole line class.next (query_with from to minute class))))) ≡ put from.value (put to.value (and_then h (λ f. put f.value (numbers line f.next 1))))
    three from to (Ok minute) = four from to minute (number_here line minute.next)
    three from to (Err e) = refl

    two : (from : Field ℕ) (h : Result (Field ℕ) Refusal) → numbers_in (result_map_both Route (λ e. e) (and_then h (λ to. and_then (number_here line to.next) (λ minute. and_then (number_here line minute.next) (λ class. whole line class.next (query_with from to minute class)))))) ≡ put from.value (and_then h (λ f. put f.value (numbers line f.next 2)))
    two from (Ok to) = three from to (number_here line to.next)
    two from (Err e) = refl

    one : (h : Result (Field ℕ) Refusal) → numbers_in (result_map_both Route (λ e. e) (and_then h (λ from. and_then (number_here line from.next) (λ to. and_then (number_here line to.next) (λ minute. and_then (number_here line minute.next) (λ class. whole line class.next (query_with from to minute class))))))) ≡ and_then h (λ f. put f.value (numbers line f.next 3))
    one (Ok from) = two from (number_here line from.next)
    one (Err e) = refl

pub way : (line : List ℕ) (letter : ℕ) → Way line letter (due letter) (by_letter letter line)
way line letter =
    step line letter (eqb letter 87) 1 _ _ _ (λ e. one_way line letter Withhold (λ v. refl) (λ v. sym (eqb-true letter 87 e)))
    (step line letter (eqb letter 82) 1 _ _ _ (λ e. one_way line letter Release (λ v. refl) (λ v. sym (eqb-true letter 82 e)))
    (step line letter (eqb letter 83) 1 _ _ _ (λ e. one_way line letter Shut (λ v. refl) (λ v. sym (eqb-true letter 83 e)))
    (step line letter (eqb letter 79) 1 _ _ _ (λ e. one_way line letter Open (λ v. refl) (λ v. sym (eqb-true letter 79 e)))
    (step line letter (eqb letter 84) 0 _ _ _ (λ e. thin_way line letter (sym (eqb-true letter 84 e)))
    (step line letter (eqb letter 81) 4 _ _ _ (λ e. route_way line letter (sym (eqb-true letter 81 e))) refl)))))
