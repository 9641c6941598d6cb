-- The calls decide each right answer, but for the legs of equally early journeys. Assumes nothing.
use Rattle.std.proofs.Common.{◌≡◌, ℕ, ◌≤◌, Bool, ◌||◌, ltb, List, length, take, Some, None, Ok, Err, Option, Result, sym, refl, ap, ◌∙◌, subst, ap₂, arith}
use Rattle.timetable.specs.declared.query.Query.{Query}
use Rattle.timetable.specs.declared.refusal.Refusal.{Refusal}
use Rattle.timetable.specs.Timetables.{Timetable}
use Rattle.timetable.proofs.HidingLemmas.{hide_same}
use Rattle.tables.proofs.Counts.{many_same}
use Rattle.thinning.specs.Dominance.{dominated_in}
use Rattle.layers.specs.Notices.{withhold_answer, release_answer, shut_answer, open_answer}
use Rattle.routing.specs.declared.found.Found.{Found}
use Rattle.routing.specs.Route.{Lent, cause_of, cause_in, Routed}
use Rattle.timetable.specs.declared.call.Call.{Call}
use Rattle.timetable.specs.declared.call.Call.TheVariants.{Withhold, Release, Shut, Open, Thin, Route}
use Rattle.board.specs.declared.calls.Answer.{Answer}
use Rattle.board.specs.declared.calls.Answer.TheVariants.{Notice, Count, Told}
use Rattle.board.specs.History.{History}
use Rattle.board.specs.Force.{withheld, is_shut, all_runs, out_of_force, book_in_force}
use Rattle.board.specs.Answers.{Answers}
use Rattle.board.specs.Plain.{clear, fed_all}
use Rattle.board.specs.Decided.{legless, decided, SameRoom, AnswersDecided}
use Rattle.board.proofs.Plains.{plain_agrees}

clash : (x : Option Refusal) (e : Refusal) → x ≡ Some e → x ≡ None → ⊥
clash x e a b = let z : ◌≡◌ {A = ℕ} 0 1 = cc in omega arith

same_cause : (x : Option Refusal) (e d : Refusal) → x ≡ Some e → x ≡ Some d → e ≡ d
same_cause x e d a b = cc

-- two right answers to one route
module _ (T : Timetable) (q : Query) (g l g' l' : Lent) (room : SameRoom g g') where
  cause_is : cause_in T q g ≡ cause_in T q g'
  cause_is =
      ap (λ (n : ℕ). cause_of q (length T.changes) (length T.places) n (length g.legs) (length g.keys)) room.labels
      ∙ ap₂ (λ (n m : ℕ). cause_of q (length T.changes) (length T.places) (length g'.labels) n m) room.legs room.items

  told_decided : (r s : Result (Option Found) Refusal) → Routed T q g l r → Routed T q g' l' s → legless r ≡ legless s
  told_decided (Err e) (Err d) x y = ap Err (same_cause (cause_in T q g) e d x.0 (cause_is ∙ y.0))
  told_decided (Err e) (Ok None) x y = absurd (clash (cause_in T q g) e x.0 (cause_is ∙ y.0))
  told_decided (Err e) (Ok (Some f)) x y = absurd (clash (cause_in T q g) e x.0 (cause_is ∙ y.0))
  told_decided (Ok None) (Err d) x y = absurd (clash (cause_in T q g) d (cause_is ∙ y.0) x.0)
  told_decided (Ok None) (Ok None) x y = refl
  told_decided (Ok None) (Ok (Some f)) x y = absurd (x.1.0 (take f.legs l'.legs) f.arrival y.1.journey)
  told_decided (Ok (Some f)) (Err d) x y = absurd (clash (cause_in T q g) d (cause_is ∙ y.0) x.0)
  told_decided (Ok (Some f)) (Ok None) x y = absurd (y.1.0 (take f.legs l.legs) f.arrival x.1.journey)
  told_decided (Ok (Some f)) (Ok (Some k)) x y =
      let up : f.arrival ≤ k.arrival = x.1.earliest (take k.legs l'.legs) k.arrival y.1.journey in
      let down : k.arrival ≤ f.arrival = y.1.earliest (take f.legs l.legs) f.arrival x.1.journey in
      ap (λ (n : ℕ). legless (Ok (Some (record { arrival = n; legs = 0 })))) (omega arith)

-- after histories in which the same runs are withheld and the same quays shut
module _ (t : Timetable) (h k : History) (runs : (x : ℕ) → withheld h x ≡ withheld k x) (quays : (x : ℕ) → is_shut h x ≡ is_shut k x) where
  force_is : book_in_force t h ≡ book_in_force t k
  force_is = hide_same (out_of_force h) (out_of_force k) (λ p s. ap₂ ◌||◌ (runs s.run) (ap₂ ◌||◌ (quays s.from) (quays s.to))) t

  same_answer : (c : Call) (a b : Answer) (g l g' l' : Lent) → SameRoom g g' → Answers t h c a g l → Answers t k c b g' l' → decided a ≡ decided b
  same_answer (Withhold run) a b g l g' l' room x y = ap decided
      (x.0 ∙ ap₂ (λ (held : Bool) (n : ℕ). Notice (withhold_answer held n)) (runs run) (many_same (withheld h) (withheld k) runs all_runs) ∙ sym y.0)
  same_answer (Release run) a b g l g' l' room x y = ap decided (x.0 ∙ ap (λ (held : Bool). Notice (release_answer held)) (runs run) ∙ sym y.0)
  same_answer (Shut quay) a b g l g' l' room x y = ap decided
      (x.0 ∙ ap₂ (λ (held : Bool) (n : ℕ). Notice (shut_answer (ltb quay (length t.changes)) held n)) (quays quay) (many_same (is_shut h) (is_shut k) quays (length t.changes)) ∙ sym y.0)
  same_answer (Open quay) a b g l g' l' room x y = ap decided (x.0 ∙ ap (λ (held : Bool). Notice (open_answer (ltb quay (length t.changes)) held)) (quays quay) ∙ sym y.0)
  same_answer Thin a b g l g' l' room x y = ap decided (x.0 ∙ ap (λ (u : Timetable). Count (dominated_in u)) force_is ∙ sym y.0)
  same_answer (Route q) a b g l g' l' room x y =
      ap decided x.1
      ∙ ap Told (told_decided (book_in_force t h) q g l g' l' room x.0 y.0 x.2 (subst (λ (u : Timetable). Routed u q g' l' y.0) (sym force_is) y.2))
      ∙ sym (ap decided y.1)

-- the plain board, fed the same calls, keeps what either history says
pub answers_decided : AnswersDecided
answers_decided t h k right right' calls =
    let one = plain_agrees t h right in
    let other = plain_agrees t k right' in
    same_answer t h k
    (λ x. one.runs x ∙ ap (λ (cs : List Call). (fed_all t clear cs).held x) calls ∙ sym (other.runs x))
    (λ x. one.quays x ∙ ap (λ (cs : List Call). (fed_all t clear cs).shut x) calls ∙ sym (other.quays x))
