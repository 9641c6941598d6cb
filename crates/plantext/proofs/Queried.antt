-- The query of a plan is read as that of a route. Assumes nothing.
use Rattle.std.proofs.Common.{◌≡◌, ℕ, Bool, true, false, cond, eqb, ltb, ◌⊎◌, List, length, Some, None, Ok, Err, Option, Result, sym, refl, ap, ◌∙◌, subst, inl, inr, arith}
use Rattle.std.specs.Option.{ok_or}
use Rattle.std.specs.Result.{result_map_both}
use Rattle.std.proofs.lemmas.Bool.{le-ltb, ne_eqb, cond-false}
use Rattle.timetable.specs.declared.refusal.Refusal.{Refusal}
use Rattle.timetable.specs.declared.refusal.Refusal.TheVariants.{NoLetter, NoNumber, Surplus, LongLine}
use Rattle.timetable.specs.declared.query.Query.{Query}
use Rattle.numerals.specs.Numbers.{number_at}
use Rattle.timetable.specs.declared.call.Call.{Call}
use Rattle.timetable.specs.declared.call.Call.TheVariants.{Route}
use Rattle.typed.specs.Commands.{by_letter, command_of}
use Rattle.typed.specs.Fields.{and_then, query_with, query_of}
use Rattle.typed.proofs.Sayings.{says}
use Rattle.plantext.specs.Lines.{lettered, query_in, query_line}
use Rattle.plantext.specs.Standing.{Begins, QueryStands, QueryMisses, QueryExceeds}
use Rattle.plantext.specs.Saying.{Answers, Says, QuerySays}
use Rattle.plantext.proofs.Lettered.{first_byte, begins_from, After, says_line}

by_q : (line : List ℕ) → Begins line 81 → command_of line ≡ result_map_both Route (λ e. e) (query_of line)
by_q line b =
    let first = first_byte line 81 b.1 in
    cond-false (ltb 64 (length line)) (Err LongLine) _ (le-ltb 64 (length line) b.0)
    ∙ (cond-false (eqb (length line) 0) (Err NoLetter) _ (ne_eqb (length line) 0 first.0)
    ∙ ap (λ letter. by_letter letter line) first.1)

back : (r : Result Query Refusal) → and_then (result_map_both Route (λ e. e) r) query_in ≡ r
back (Ok q) = refl
back (Err e) = refl

-- after the letter, the query of the command is that of the line
from_command : (line : List ℕ) → Begins line 81 → and_then (command_of line) query_in ≡ query_of line
from_command line b = ap (λ r. and_then r query_in) (by_q line b) ∙ back (query_of line)

pub line_is : (line : List ℕ) (u : Unit {0}) → Ok u ≡ lettered line 81 → and_then (command_of line) query_in ≡ query_line line
line_is line u h = from_command line (begins_from line 81 u h) ∙ ap (λ r. and_then r (λ _. query_of line)) h

-- a number is missing, or something follows: nothing else can go wrong after the letter
abbrev Either : Refusal → Type 0
Either e = (e ≡ NoNumber) ⊎ (e ≡ Surplus)

step : {X Y : Type 0} (o : Option X) (k : X → Result Y Refusal) → ((x : X) (e : Refusal) → k x ≡ Err e → Either e) → (e : Refusal) → and_then (ok_or o NoNumber) k ≡ Err e → Either e
step None k h e q = inl (cc)
step (Some x) k h e q = h x e q

end : {X : Type 0} (b : Bool) (x : X) (e : Refusal) → cond b (Ok x) (Err Surplus) ≡ Err e → Either e
end true x e q = let z : ◌≡◌ {A = ℕ} 0 1 = cc in absurd (omega arith)
end false x e q = inr (cc)

either : (line : List ℕ) (e : Refusal) → query_of line ≡ Err e → Either e
either line =
    step (number_at line 1) _ (λ a. step (number_at line a.next) _ (λ b. step (number_at line b.next) _ (λ m.
    step (number_at line m.next) _ (λ k. end (eqb k.next (length line)) (query_with a b m k)))))

after_says : (line : List ℕ) → Begins line 81 → Says (QueryStands line) (After line 81 (QueryStands line) (QueryMisses line) (QueryExceeds line)) (query_of line)
after_says line b = record { right = right (query_of line) refl; only = only }
  where
    right : (r : Result Query Refusal) → query_of line ≡ r → Answers (QueryStands line) (After line 81 (QueryStands line) (QueryMisses line) (QueryExceeds line)) r
    right (Ok q) e = ((says line).asks (Route q)).0 (by_q line b ∙ ap (result_map_both Route (λ f. f)) e)
    right (Err f) e = which (either line f e)
      where
        refused : command_of line ≡ Err f
        refused = by_q line b ∙ ap (result_map_both Route (λ f. f)) e

        which : Either f → After line 81 (QueryStands line) (QueryMisses line) (QueryExceeds line) f
        which (inl p) = inl ((says line).misses.0 (refused ∙ ap Err p), p)
        which (inr p) = inr ((says line).exceeds.0 (refused ∙ ap Err p), p)

    command : (r : Result Call Refusal) → command_of line ≡ r → and_then r query_in ≡ query_of line
    command r e = ap (λ c. and_then c query_in) (sym e) ∙ from_command line b

    only : (o : Result Query Refusal) → Answers (QueryStands line) (After line 81 (QueryStands line) (QueryMisses line) (QueryExceeds line)) o → o ≡ query_of line
    only (Ok q) a = command (Ok (Route q)) (((says line).asks (Route q)).1 a)
    only (Err e) (inl (m, p)) = ap Err p ∙ command (Err NoNumber) ((says line).misses.1 m)
    only (Err e) (inr (m, p)) = ap Err p ∙ command (Err Surplus) ((says line).exceeds.1 m)

pub query_says : (line : List ℕ) → QuerySays line (query_line line)
query_says line =
    says_line line 81 (QueryStands line) (QueryMisses line) (QueryExceeds line) (query_of line) (λ q a. (a.begins.short, a.begins.first)) (after_says line)

pub query_says_at : (line : List ℕ) (r : Result Query Refusal) → r ≡ query_line line → QuerySays line r
query_says_at line r e = subst (QuerySays line) (sym e) (query_says line)
