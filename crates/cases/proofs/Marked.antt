-- The marks of the worked book as one computed test. Assumes nothing.
use Rattle.std.proofs.Common.{◌≡◌, Bool, true, false, not, List, length, get_or, sym, refl, ap, ◌∙◌}
use Rattle.std.proofs.lemmas.Bool.Decides.{Decides-at}
use Rattle.tables.specs.Lists.{many}
use Rattle.thinning.specs.Margins.{passes}
use Rattle.thinning.specs.Dominance.{dominated, mark_of, dominated_in}
use Rattle.thinning.proofs.Tested.{dominance}
use Rattle.cases.specs.Mill.{mill}
use Rattle.cases.proofs.Tests.{all_below}
use Rattle.cases.specs.Marks.{WorkedMarks}
use Rattle.cases.proofs.Potentials.{all_below_lem, inside}

abbrev pub agree : Bool → Bool → Bool
agree true b = b
agree false b = not b

agree_same : (a b : Bool) → agree a b ≡ true → a ≡ b
agree_same true b h = sym h
agree_same false true h = h
agree_same false false h = refl

abbrev pub marks_hold : List Bool → Bool
marks_hold marks = all_below (λ p. agree (get_or marks p false) (mark_of (mill 30) p)) (length (mill 30).places)

pub marks_right : (marks : List Bool) → length marks ≡ length (mill 30).places → marks_hold marks ≡ true → dominated_in (mill 30) ≡ many (λ p. get_or marks p false) (length marks) → WorkedMarks marks
marks_right marks wide h told = record {
  wide = wide;
  told = told;
  each = λ p s e.
      let same : get_or marks p false ≡ mark_of (mill 30) p =
      agree_same _ _ (all_below_lem (λ k. agree (get_or marks k false) (mark_of (mill 30) k)) (length (mill 30).places) h p (inside (mill 30) p s e)) in
      Decides-at (get_or marks p false) (dominated (mill 30) p s) (same ∙ ap (λ x. passes (dominated (mill 30) p) x) e) (dominance (mill 30) p s);
}
