-- One notice, a thin, and then a route. Assumes nothing.
use Rattle.std.proofs.Common.{◌≡◌, ℕ, true, false, cond, ◌&&◌, ◌||◌, eqb, is_ok, Ok, Option, Result, sym, refl, ap, ◌∙◌, subst}
use Rattle.timetable.specs.declared.query.Query.{Query}
use Rattle.timetable.specs.declared.refusal.Refusal.{Refusal}
use Rattle.timetable.specs.Timetables.{Timetable}
use Rattle.timetable.specs.Hiding.{hide}
use Rattle.timetable.proofs.HidingLemmas.{hide_same}
use Rattle.tables.specs.Lists.{many}
use Rattle.layers.specs.Notices.{Notice as Reply, withhold_answer}
use Rattle.routing.specs.declared.found.Found.{Found}
use Rattle.routing.specs.Route.{Lent, Routed}
use Rattle.timetable.specs.declared.call.Call.TheVariants.{Withhold, Thin, Route}
use Rattle.board.specs.declared.calls.Answer.TheVariants.{Notice, Count, Told}
use Rattle.board.specs.History.{event, History, new, ◌then◌}
use Rattle.board.specs.Force.{all_runs, out_of_force, book_in_force}
use Rattle.board.specs.States.{State}
use Rattle.board.proofs.Holds.{many_false}
use Rattle.board.specs.Kept.{Kept, Carries, CarriesOn}
use Rattle.board_tests.specs.Without.{RoutedWithout}

told_same : (x y : Result (Option Found) Refusal) → Told x ≡ Told y → x ≡ y
told_same x y e = cc

notice_same : (x y : Reply) → Notice x ≡ Notice y → x ≡ y
notice_same x y e = cc

module _ (t : Timetable) (run : ℕ) (q : Query) (given left : Lent) (a : Reply) (n : ℕ) (r : Result (Option Found) Refusal) where
  -- the first notice on a new board is accepted
  taken : a ≡ withhold_answer false (many (λ x. false) all_runs) → a ≡ Ok tt
  taken e = e ∙ ap (withhold_answer false) (many_false all_runs)

  run_is : a ≡ Ok tt → (x : ℕ) → cond (eqb x run && is_ok a) true false ≡ eqb x run
  run_is e x =
      ap (λ (b : Reply). cond (eqb x run && is_ok b) true false) e
      ∙ (elim (eqb x run) as (λ b. cond (b && true) true false ≡ b) [ true ↦ refl | false ↦ refl ])

  pub one : (s₀ s₁ s₂ s₃ : State) → Kept t new s₀ → CarriesOn s₀ (Withhold run) (Notice a) s₁ → CarriesOn s₁ Thin (Count n) s₂ →
      Carries s₂ (event (Route q) (Told r) given left) s₃ → RoutedWithout t run q given left r
  one s₀ s₁ s₂ s₃ k₀ first second third =
      let h₁ : History = new then event (Withhold run) (Notice a) given given in
      let h₂ : History = h₁ then event Thin (Count n) given given in
      let k₁ = first given t new k₀ in
      let k₂ = second given t h₁ k₁ in
      let k₃ = third t h₂ k₂ in
      let told = k₃.right.1 in
      let ok = run_is (taken (notice_same a _ k₁.right.1.0)) in
      let same : book_in_force t h₂ ≡ hide (λ p x. eqb x.run run) t =
      hide_same (out_of_force h₂) (λ p x. eqb x.run run)
      (λ p x. ap (λ b. b || false) (ok x.run) ∙ (elim (eqb x.run run) as (λ b. (b || false) ≡ b) [ true ↦ refl | false ↦ refl ])) t in
      subst (λ (u : Timetable). Routed u q given left r) same
      (subst (λ (x : Result (Option Found) Refusal). Routed (book_in_force t h₂) q given left x) (sym (told_same r told.0 told.1)) told.2)
