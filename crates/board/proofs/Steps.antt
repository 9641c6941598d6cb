-- One event more: what a board keeps true of its history. Assumes nothing.
use Rattle.std.proofs.Common.{◌≡◌, ℕ, zero, suc, ◌<◌, Bool, true, false, cond, ◌||◌, eqb, ltb, List, [], ◌∷◌, ◌++◌, length, get_or, replicate, Ok, Err, Option, Result, sym, refl, ap, ◌∙◌, subst, ap₂}
use Rattle.std.proofs.lemmas.Bool.{false≢true, ltb-true}
use Rattle.std.proofs.Math.Bool.{and-true, and-false}
use Rattle.timetable.specs.declared.query.Query.{Query}
use Rattle.timetable.specs.declared.refusal.Refusal.{Refusal}
use Rattle.timetable.specs.declared.refusal.Refusal.TheVariants.{RunWithheld, RunNotWithheld, RunsFull, QuayShut, QuayNotShut, QuaysFull, NoQuay}
use Rattle.timetable.specs.Timetables.{Timetable}
use Rattle.timetable.specs.Hiding.{hide}
use Rattle.timetable.proofs.HidingLemmas.{hide_same}
use Rattle.tables.specs.Lists.{has, without}
use Rattle.thinning.specs.Margins.{passes}
use Rattle.thinning.specs.Dominance.{dominated, mark_of, dominated_in}
use Rattle.thinning.specs.Thinning.{marked, Picks}
use Rattle.thinning.proofs.Tested.{dominance}
use Rattle.layers.specs.Notices.{Notice as Reply, most_runs, most_quays, withhold_answer, release_answer, shut_answer, open_answer, of_withheld, touches_shut}
use Rattle.routing.specs.declared.found.Found.{Found}
use Rattle.routing.specs.Route.{Lent, Routed}
use Rattle.timetable.specs.declared.call.Call.{Call}
use Rattle.timetable.specs.declared.call.Call.TheVariants.{Withhold, Release, Shut, Open, Thin, Route}
use Rattle.board.specs.declared.calls.Answer.TheVariants.{Notice, Count, Told}
use Rattle.board.specs.History.{event, History, new, ◌then◌}
use Rattle.board.specs.Force.{for_run, for_quay, forbids, withheld, is_shut, all_runs, runs_withheld, quays_shut, out_of_force, book_in_force}
use Rattle.board.specs.Answers.{SameRows, Right}
use Rattle.board.specs.States.{State, no_marks, opening, standing, on_withhold, on_release, on_shut, on_open, noted, after_withhold, after_release, after_shut, after_open, AfterThin}
use Rattle.board.specs.Kept.{Lists, Kept, Carries, CarriesOn}
use Rattle.board.proofs.Holds.{lists_many, lists_same, lists_push, lists_without, lists_none}

unmarked : (n p : ℕ) → get_or (replicate n false) p false ≡ false
unmarked zero p = refl
unmarked (suc n) zero = refl
unmarked (suc n) (suc p) = unmarked n p

-- no marks pick nothing
none_picked : (t : Timetable) → Picks (marked no_marks) t
none_picked t p x e m = absurd (false≢true (sym (unmarked 3072 p) ∙ m))

-- a board that holds what the history says blanks what is out of force
stands : (t : Timetable) (h : History) (s : State) → s.opened ≡ t → Lists (withheld h) all_runs s.runs → Lists (is_shut h) (length t.changes) s.quays → standing s ≡ book_in_force t h
stands t h s o r k =
    hide_same (λ p x. of_withheld s.runs p x || touches_shut s.quays p x) (out_of_force h)
    (λ p x. ap₂ ◌||◌ (r.has_is x.run) (ap₂ ◌||◌ (k.has_is x.from) (k.has_is x.to))) s.opened
    ∙ ap (hide (out_of_force h)) o

pub kept_new : (t : Timetable) (s : State) → s ≡ opening t → Kept t new s
kept_new t s e = subst (λ (x : State). Kept t new x) (sym e) (record {
  opened = refl;
  right = tt;
  in_force = stands t new (opening t) refl (lists_none all_runs) (lists_none (length t.changes));
  runs = lists_none all_runs;
  quays = lists_none (length t.changes);
  marks = none_picked (book_in_force t new);
})

module _ (t : Timetable) (h : History) (s : State) (k : Kept t h s) where
  -- a notice that was refused
  refused : (c : Call) (e : Refusal) (lent : Lent) → Right t h (event c (Notice (Err e)) lent lent) → Kept t (h then event c (Notice (Err e)) lent lent) s
  refused c e lent right =
      let ev = event c (Notice (Err e)) lent lent in
      let run_is : (x : ℕ) → withheld (h then ev) x ≡ withheld h x = λ x. ap (λ b. cond b (forbids c) (withheld h x)) (and-false (for_run c x)) in
      let quay_is : (x : ℕ) → is_shut (h then ev) x ≡ is_shut h x = λ x. ap (λ b. cond b (forbids c) (is_shut h x)) (and-false (for_quay c x)) in
      let same : book_in_force t (h then ev) ≡ book_in_force t h =
      hide_same (out_of_force (h then ev)) (out_of_force h) (λ p x. ap₂ ◌||◌ (run_is x.run) (ap₂ ◌||◌ (quay_is x.from) (quay_is x.to))) t in
      record {
        opened = k.opened;
        right = (k.right, right);
        in_force = k.in_force ∙ sym same;
        runs = lists_same (withheld h) all_runs s.runs k.runs (withheld (h then ev)) run_is;
        quays = lists_same (is_shut h) (length t.changes) s.quays k.quays (is_shut (h then ev)) quay_is;
        marks = subst (λ (u : Timetable). Picks (marked s.marks) u) (sym same) k.marks;
      }

  -- a notice that was accepted, by the lists that it leaves
  accepts : (c : Call) (lent : Lent) (runs quays : List ℕ) → Right t h (event c (Notice (Ok tt)) lent lent) →
      Lists (withheld (h then event c (Notice (Ok tt)) lent lent)) all_runs runs → Lists (is_shut (h then event c (Notice (Ok tt)) lent lent)) (length t.changes) quays →
      Kept t (h then event c (Notice (Ok tt)) lent lent) (record { opened = s.opened; runs = runs; quays = quays; marks = no_marks })
  accepts c lent runs quays right lr lq =
      let ev = event c (Notice (Ok tt)) lent lent in
      record {
        opened = k.opened;
        right = (k.right, right);
        in_force = stands t (h then ev) (record { opened = s.opened; runs = runs; quays = quays; marks = no_marks }) k.opened lr lq;
        runs = lr;
        quays = lq;
        marks = none_picked (book_in_force t (h then ev));
      }

  runs_many : length s.runs ≡ runs_withheld h
  runs_many = lists_many (withheld h) all_runs s.runs k.runs

  quays_many : length s.quays ≡ quays_shut t h
  quays_many = lists_many (is_shut h) (length t.changes) s.quays k.quays

  quays_are : length s.opened.changes ≡ length t.changes
  quays_are = ap (λ (u : Timetable). length u.changes) k.opened

  withheld-kept : (run : ℕ) → run < all_runs → (lent : Lent) → Kept t (h then event (Withhold run) (Notice (on_withhold s run)) lent lent) (after_withhold s run)
  withheld-kept run lt lent =
      go (has run s.runs) (ltb (length s.runs) most_runs) refl (ap Notice (ap₂ withhold_answer (k.runs.has_is run) runs_many), refl)
    where
      go : (b f : Bool) → has run s.runs ≡ b →
          let a : Reply = cond b (Err RunWithheld) (cond f (Ok tt) (Err RunsFull)) in
          Right t h (event (Withhold run) (Notice a) lent lent) → Kept t (h then event (Withhold run) (Notice a) lent lent) (noted s a (s.runs ++ (run ∷ [])) s.quays)
      go true f e right = refused (Withhold run) RunWithheld lent right
      go false false e right = refused (Withhold run) RunsFull lent right
      go false true e right = accepts (Withhold run) lent (s.runs ++ (run ∷ [])) s.quays right
          (lists_push (withheld h) all_runs s.runs k.runs run lt e _ (λ x. ap (λ b. cond b true (withheld h x)) (and-true (eqb x run)))) k.quays

  released_kept : (run : ℕ) (lent : Lent) → Kept t (h then event (Release run) (Notice (on_release s run)) lent lent) (after_release s run)
  released_kept run lent =
      go (has run s.runs) (ap (λ (b : Bool). Notice (release_answer b)) (k.runs.has_is run), refl)
    where
      go : (b : Bool) →
          let a : Reply = cond b (Ok tt) (Err RunNotWithheld) in
          Right t h (event (Release run) (Notice a) lent lent) → Kept t (h then event (Release run) (Notice a) lent lent) (noted s a (without run s.runs) s.quays)
      go true right = accepts (Release run) lent (without run s.runs) s.quays right
          (lists_without (withheld h) all_runs s.runs k.runs run _ (λ x. ap (λ b. cond b false (withheld h x)) (and-true (eqb x run)))) k.quays
      go false right = refused (Release run) RunNotWithheld lent right

  shut_kept : (quay : ℕ) (lent : Lent) → Kept t (h then event (Shut quay) (Notice (on_shut s quay)) lent lent) (after_shut s quay)
  shut_kept quay lent =
      go (ltb quay (length s.opened.changes)) (has quay s.quays) (ltb (length s.quays) most_quays) refl refl (
        ap (λ (n : ℕ). Notice (shut_answer (ltb quay n) (has quay s.quays) (length s.quays))) quays_are
            ∙ ap₂ (λ (b : Bool) (n : ℕ). Notice (shut_answer (ltb quay (length t.changes)) b n)) (k.quays.has_is quay) quays_many,
        refl,
      )
    where
      go : (i b f : Bool) → ltb quay (length s.opened.changes) ≡ i → has quay s.quays ≡ b →
          let a : Reply = cond i (cond b (Err QuayShut) (cond f (Ok tt) (Err QuaysFull))) (Err NoQuay) in
          Right t h (event (Shut quay) (Notice a) lent lent) → Kept t (h then event (Shut quay) (Notice a) lent lent) (noted s a s.runs (s.quays ++ (quay ∷ [])))
      go false b f i e right = refused (Shut quay) NoQuay lent right
      go true true f i e right = refused (Shut quay) QuayShut lent right
      go true false false i e right = refused (Shut quay) QuaysFull lent right
      go true false true i e right = accepts (Shut quay) lent s.runs (s.quays ++ (quay ∷ [])) right k.runs
          (lists_push (is_shut h) (length t.changes) s.quays k.quays quay
          (subst (λ (n : ℕ). quay < n) quays_are (ltb-true _ _ i)) e _ (λ x. ap (λ b. cond b true (is_shut h x)) (and-true (eqb x quay))))

  opened_kept : (quay : ℕ) (lent : Lent) → Kept t (h then event (Open quay) (Notice (on_open s quay)) lent lent) (after_open s quay)
  opened_kept quay lent =
      go (ltb quay (length s.opened.changes)) (has quay s.quays) (
        ap (λ (n : ℕ). Notice (open_answer (ltb quay n) (has quay s.quays))) quays_are
            ∙ ap (λ (b : Bool). Notice (open_answer (ltb quay (length t.changes)) b)) (k.quays.has_is quay),
        refl,
      )
    where
      go : (i b : Bool) →
          let a : Reply = cond i (cond b (Ok tt) (Err QuayNotShut)) (Err NoQuay) in
          Right t h (event (Open quay) (Notice a) lent lent) → Kept t (h then event (Open quay) (Notice a) lent lent) (noted s a s.runs (without quay s.quays))
      go false b right = refused (Open quay) NoQuay lent right
      go true false right = refused (Open quay) QuayNotShut lent right
      go true true right = accepts (Open quay) lent s.runs (without quay s.quays) right k.runs
          (lists_without (is_shut h) (length t.changes) s.quays k.quays quay _ (λ x. ap (λ b. cond b false (is_shut h x)) (and-true (eqb x quay))))

  thinned_kept : (after : State) (lent : Lent) → AfterThin s after → Kept t (h then event Thin (Count (dominated_in (standing s))) lent lent) after
  thinned_kept after lent th =
      let ev = event Thin (Count (dominated_in (standing s))) lent lent in
      let lr : Lists (withheld h) all_runs after.runs = subst (λ (xs : List ℕ). Lists (withheld h) all_runs xs) (sym th.runs) k.runs in
      let lq : Lists (is_shut h) (length t.changes) after.quays = subst (λ (xs : List ℕ). Lists (is_shut h) (length t.changes) xs) (sym th.quays) k.quays in
      record {
        opened = th.opened ∙ k.opened;
        right = (k.right, (ap (λ (u : Timetable). Count (dominated_in u)) k.in_force, refl));
        in_force = stands t (h then ev) after (th.opened ∙ k.opened) lr lq;
        runs = lr;
        quays = lq;
        marks = λ p x e m.
            (dominance (book_in_force t h) p x).0 (sym (ap (passes (dominated (book_in_force t h) p)) e) ∙ sym (th.marks p ∙ ap (λ (u : Timetable). mark_of u p) k.in_force) ∙ m);
      }

  routed_kept : (q : Query) (r : Result (Option Found) Refusal) (given left : Lent) → Routed (book_in_force t h) q given left r → SameRows given left →
      Kept t (h then event (Route q) (Told r) given left) s
  routed_kept q r given left d rows = record {
    opened = k.opened;
    right = (k.right, (r, refl, d, rows));
    in_force = k.in_force;
    runs = k.runs;
    quays = k.quays;
    marks = k.marks;
  }

-- the six calls, by their exact answers and effects
module _ (s after : State) (a : Reply) where
  carried : (c : Call) (b : Reply) (state : State) → a ≡ b → after ≡ state → CarriesOn s c (Notice b) state → CarriesOn s c (Notice a) after
  carried c b state e f k = subst (λ (x : Reply). CarriesOn s c (Notice x) after) (sym e) (subst (λ (x : State). CarriesOn s c (Notice b) x) (sym f) k)

  pub withhold_carries : (run : ℕ) → run < all_runs → a ≡ on_withhold s run → after ≡ after_withhold s run → CarriesOn s (Withhold run) (Notice a) after
  withhold_carries run lt e f = carried (Withhold run) (on_withhold s run) (after_withhold s run) e f (λ lent t h k. withheld-kept t h s k run lt lent)

  pub release_carries : (run : ℕ) → a ≡ on_release s run → after ≡ after_release s run → CarriesOn s (Release run) (Notice a) after
  release_carries run e f = carried (Release run) (on_release s run) (after_release s run) e f (λ lent t h k. released_kept t h s k run lent)

  pub shut_carries : (quay : ℕ) → a ≡ on_shut s quay → after ≡ after_shut s quay → CarriesOn s (Shut quay) (Notice a) after
  shut_carries quay e f = carried (Shut quay) (on_shut s quay) (after_shut s quay) e f (λ lent t h k. shut_kept t h s k quay lent)

  pub open_carries : (quay : ℕ) → a ≡ on_open s quay → after ≡ after_open s quay → CarriesOn s (Open quay) (Notice a) after
  open_carries quay e f = carried (Open quay) (on_open s quay) (after_open s quay) e f (λ lent t h k. opened_kept t h s k quay lent)

pub thin_carries : (s after : State) (n : ℕ) → n ≡ dominated_in (standing s) → AfterThin s after → CarriesOn s Thin (Count n) after
thin_carries s after n e th lent t h k =
    subst (λ (m : ℕ). Kept t (h then event Thin (Count m) lent lent) after) (sym e) (thinned_kept t h s k after lent th)

pub route_carries : (s : State) (q : Query) (r : Result (Option Found) Refusal) (given left : Lent) →
    ((t : Timetable) (h : History) → Kept t h s → Routed (book_in_force t h) q given left r) → SameRows given left → Carries s (event (Route q) (Told r) given left) s
route_carries s q r given left d rows t h k = routed_kept t h s k q r given left (d t h k) rows
