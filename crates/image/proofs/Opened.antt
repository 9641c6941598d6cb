-- Opening tells exactly what an image holds. Assumes nothing.
use Rattle.std.proofs.Common.{◌≡◌, ℕ, cond, List, is_ok, ap, ◌∙◌, ⊎_elim}
use Rattle.std.proofs.lemmas.Bool.{cases_Bool}
use Rattle.image.specs.Checks.{printed_check, clock_check}
use Rattle.image.specs.Images.{PrintedOf, ClockOf}
use Rattle.image.specs.Meanings.{printed, clock_face}
use Rattle.image.specs.Names.{names_of, names_in}
use Rattle.image.specs.Openings.{OpensPrinted, OpensClock, blank_image}
use Rattle.image.proofs.Contained.{Small}
use Rattle.image.proofs.Exact.{printed_exact, clock_exact}
use Rattle.image.proofs.Held.{printed_quays, clock_quays}
use Rattle.image.proofs.Same.{printed_same, clock_same}

module _ (bs : List ℕ) (small : Small bs) where
  pub printed_opens : (cs : List ℕ) → cs ≡ cond (is_ok (printed_check bs)) bs (blank_image 1) → OpensPrinted bs (printed cs) (names_in cs)
  printed_opens cs e =
      let there : PrintedOf bs → cs ≡ bs = λ c. e ∙ ap (λ b. cond b bs (blank_image 1)) ((printed_exact bs small).1 c) in
      let gone : (PrintedOf bs → ⊥) → cs ≡ blank_image 1 = λ n. e ∙ ⊎_elim (λ y. absurd (n ((printed_exact bs small).0 y))) (λ f. ap (λ b. cond b bs (blank_image 1)) f) (cases_Bool (is_ok (printed_check bs))) in
      record {
        held = λ c. ap printed (there c) ∙ printed_same c.quays c.sailings bs c.laid;
        named = λ c. ap names_in (there c) ∙ ap names_of (printed_quays bs c);
        other = λ n. ap printed (gone n);
        nameless = λ n. ap names_in (gone n);
      }

  pub clock_opens : (cs : List ℕ) → cs ≡ cond (is_ok (clock_check bs)) bs (blank_image 2) → OpensClock bs (clock_face cs) (names_in cs)
  clock_opens cs e =
      let there : ClockOf bs → cs ≡ bs = λ c. e ∙ ap (λ b. cond b bs (blank_image 2)) ((clock_exact bs small).1 c) in
      let gone : (ClockOf bs → ⊥) → cs ≡ blank_image 2 = λ n. e ∙ ⊎_elim (λ y. absurd (n ((clock_exact bs small).0 y))) (λ f. ap (λ b. cond b bs (blank_image 2)) f) (cases_Bool (is_ok (clock_check bs))) in
      record {
        held = λ c. ap clock_face (there c) ∙ clock_same c.quays c.series bs c.laid;
        named = λ c. ap names_in (there c) ∙ ap names_of (clock_quays bs c);
        other = λ n. ap clock_face (gone n);
        nameless = λ n. ap names_in (gone n);
      }
