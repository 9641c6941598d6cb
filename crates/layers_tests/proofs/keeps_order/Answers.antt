use Rattle.std.proofs.Common.{◌≡◌, ℕ, cond, List, [], ◌∷◌, ◌++◌, length, is_ok, ap, ◌∙◌}
use Rattle.tables.specs.Lists.{has, without}
use Rattle.layers.specs.Notices.{Notice, withhold_answer, release_answer}
use Rattle.layers_tests.proofs.keeps_order.Goals as goal

-- what a notice leaves, where it is known what stood
withheld : (run : ℕ) (xs new zs : List ℕ) (r : Notice) → r ≡ withhold_answer (has run xs) (length xs) → new ≡ cond (is_ok r) (xs ++ (run ∷ [])) xs → xs ≡ zs →
    new ≡ cond (is_ok (withhold_answer (has run zs) (length zs))) (zs ++ (run ∷ [])) zs
withheld run xs new zs r answer after is =
    after ∙ ap (λ (a : Notice). cond (is_ok a) (xs ++ (run ∷ [])) xs) answer
    ∙ ap (λ (l : List ℕ). cond (is_ok (withhold_answer (has run l) (length l))) (l ++ (run ∷ [])) l) is

released : (run : ℕ) (xs new zs : List ℕ) (r : Notice) → r ≡ release_answer (has run xs) → new ≡ cond (is_ok r) (without run xs) xs → xs ≡ zs →
    new ≡ cond (is_ok (release_answer (has run zs))) (without run zs) zs
released run xs new zs r answer after is =
    after ∙ ap (λ (a : Notice). cond (is_ok a) (without run xs) xs) answer
    ∙ ap (λ (l : List ℕ). cond (is_ok (release_answer (has run l))) (without run l) l) is

pub returns : goal.returns
returns g c =
    let a = withheld 7 _ _ [] _ c.withhold.ensures.answer c.withhold.ensures.after c.new-book.ensures.none in
    let b = withheld 8 _ _ (7 ∷ []) _ c.withhold-2.ensures.answer c.withhold-2.ensures.after a in
    let d = withheld 6 _ _ (7 ∷ 8 ∷ []) _ c.withhold-3.ensures.answer c.withhold-3.ensures.after b in
    let e = withheld 7 _ _ (7 ∷ 8 ∷ 6 ∷ []) _ c.withhold-4.ensures.answer c.withhold-4.ensures.after d in
    let f = released 8 _ _ (7 ∷ 8 ∷ 6 ∷ []) _ c.release.ensures.answer c.release.ensures.after e in
    withheld 9 _ _ (7 ∷ 6 ∷ []) _ c.withhold-5.ensures.answer c.withhold-5.ensures.after f
