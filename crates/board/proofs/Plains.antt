-- The plain board keeps what the history says. Assumes nothing.
use Rattle.std.proofs.Common.{◌≡◌, ℕ, Bool, true, false, cond, ◌&&◌, ◌||◌, eqb, ltb, List, [], ◌∷◌, ◌++◌, length, is_ok, sym, refl, ap, ◌∙◌, subst, ap₂}
use Rattle.timetable.specs.Timetables.{Timetable}
use Rattle.timetable.proofs.HidingLemmas.{hide_same}
use Rattle.tables.proofs.Counts.{many_same}
use Rattle.layers.specs.Notices.{withhold_answer, release_answer, shut_answer, open_answer}
use Rattle.routing.specs.Route.{Lent}
use Rattle.timetable.specs.declared.call.Call.{Call}
use Rattle.timetable.specs.declared.call.Call.TheVariants.{Withhold, Release, Shut, Open, Thin, Route}
use Rattle.board.specs.declared.calls.Answer.{Answer}
use Rattle.board.specs.History.{event, History, new, ◌then◌, calls_of}
use Rattle.board.specs.Force.{accepted, withheld, is_shut, all_runs, out_of_force}
use Rattle.board.specs.Answers.{Answers}
use Rattle.board.specs.Plain.{Plain, clear, fed, fed_all, Agrees, PlainAgrees}

fed_more : (t : Timetable) (b : Plain) (cs : List Call) (c : Call) → fed_all t b (cs ++ (c ∷ [])) ≡ fed t (fed_all t b cs) c
fed_more t b [] c = refl
fed_more t b (x ∷ cs) c = fed_more t (fed t b x) cs c

-- the book in force is that of the runs and quays
agree : (t : Timetable) (h : History) (b : Plain) → ((x : ℕ) → withheld h x ≡ b.held x) → ((x : ℕ) → is_shut h x ≡ b.shut x) → Agrees t h b
agree t h b runs quays = record {
  runs = runs;
  quays = quays;
  in_force = hide_same (out_of_force h) (λ p s. b.held s.run || (b.shut s.from || b.shut s.to))
      (λ p s. ap₂ ◌||◌ (runs s.run) (ap₂ ◌||◌ (quays s.from) (quays s.to))) t;
}

module _ (t : Timetable) (h : History) (b : Plain) (i : Agrees t h b) where
  one_more : (c : Call) (a : Answer) (g l : Lent) → Answers t h c a g l → Agrees t (h then event c a g l) (fed t b c)
  one_more (Withhold run) a g l r = agree t (h then event (Withhold run) a g l) (fed t b (Withhold run))
      (λ x. ap₂ (λ (ok y : Bool). cond (eqb x run && ok) true y)
      (ap accepted r.0 ∙ ap₂ (λ (held : Bool) (n : ℕ). is_ok (withhold_answer held n)) (i.runs run) (many_same (withheld h) b.held i.runs all_runs)) (i.runs x))
      i.quays
  one_more (Release run) a g l r = agree t (h then event (Release run) a g l) (fed t b (Release run))
      (λ x. ap₂ (λ (ok y : Bool). cond (eqb x run && ok) false y) (ap accepted r.0 ∙ ap (λ (held : Bool). is_ok (release_answer held)) (i.runs run)) (i.runs x))
      i.quays
  one_more (Shut quay) a g l r = agree t (h then event (Shut quay) a g l) (fed t b (Shut quay))
      i.runs
      (λ x. ap₂ (λ (ok y : Bool). cond (eqb x quay && ok) true y)
      (ap accepted r.0 ∙ ap₂ (λ (held : Bool) (n : ℕ). is_ok (shut_answer (ltb quay (length t.changes)) held n)) (i.quays quay) (many_same (is_shut h) b.shut i.quays (length t.changes))) (i.quays x))
  one_more (Open quay) a g l r = agree t (h then event (Open quay) a g l) (fed t b (Open quay))
      i.runs
      (λ x. ap₂ (λ (ok y : Bool). cond (eqb x quay && ok) false y) (ap accepted r.0 ∙ ap (λ (held : Bool). is_ok (open_answer (ltb quay (length t.changes)) held)) (i.quays quay)) (i.quays x))
  one_more Thin a g l r = agree t (h then event Thin a g l) b i.runs i.quays
  one_more (Route q) a g l r = agree t (h then event (Route q) a g l) b i.runs i.quays

pub plain_agrees : PlainAgrees
plain_agrees t new r = agree t new clear (λ x. refl) (λ x. refl)
plain_agrees t (h then e) r =
    subst (λ (b : Plain). Agrees t (h then e) b) (sym (fed_more t clear (calls_of h) e.call))
    (one_more t h (fed_all t clear (calls_of h)) (plain_agrees t h r.0) e.call e.answer e.given e.left r.1)
