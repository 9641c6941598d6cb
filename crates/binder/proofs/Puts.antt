-- Writes into a buffer, one after another. Assumes nothing.
use Rattle.std.proofs.Common.{◌≡◌, ℕ, ◌+◌, ◌*◌, ◌/◌, ◌%◌, ◌<◌, ◌≤◌, List, [], ◌∷◌, ◌++◌, length, get_or, take, drop, sym, refl, ap, ◌∙◌, append_assoc, zero-add, arith, length-append, take-append-drop}
use lib.Seq.{drop-append-add}
use Rattle.std.specs.Int.{to_le_bytes, w16}
use Rattle.std.specs.List.{flat_map, AllByRecursion as All}
use Rattle.std.proofs.lemmas.List.{take_at, drop-drop, length-take-le, take_more, flat_map_more}
use Rattle.std.proofs.ByRecursion.{All-take}
use Rattle.image.proofs.Cuts.{length_joined}
use Rattle.image.specs.declared.quay.Quay.{Quay}
use Rattle.timetable.specs.declared.sailing.Sailing.{Sailing}
use Rattle.image.specs.Layout.{two, heading_bytes, quay_bytes, sailing_bytes}
use Rattle.image.proofs.Laid.{all_sized}
use Rattle.binder.specs.Binding.{written, over, book_bytes}

pub written_none : (at : ℕ) (d : List ℕ) → d ≡ written at [] d
written_none at d = let e : at + 0 ≡ at = omega arith in rw e (sym (take-append-drop at d))

pub written-written : (at n : ℕ) (xs ys d : List ℕ) → n ≡ at + length xs → at ≤ length d → written n ys (written at xs d) ≡ written at (xs ++ ys) d
written-written at n xs ys d e l =
    let p = take at d ++ xs in
    let q = drop (at + length xs) d in
    let w : written at xs d ≡ p ++ q = sym (append_assoc (take at d) xs q) in
    let long : length p ≡ n = omega (arith, length-append (take at d) xs, length-take-le at d l) in
    let front : take n (p ++ q) ≡ p = take_at p q n long in
    let back : drop (n + length ys) (p ++ q) ≡ drop (at + length (xs ++ ys)) d =
    let m : n + length ys ≡ length p + length ys = omega arith in
    let k : at + length xs + length ys ≡ at + length (xs ++ ys) = omega (arith, length-append xs ys) in
    ap (λ i. drop i (p ++ q)) m ∙ drop-append-add p q (length ys) ∙ drop-drop (length ys) (at + length xs) d ∙ ap (λ i. drop i d) k in
    ap (written n ys) w
    ∙ ap (λ t. t ++ (ys ++ drop (n + length ys) (p ++ q))) front
    ∙ ap (λ t. p ++ (ys ++ t)) back
    ∙ simp append_assoc

-- one more row written
pub row_written : {X : Type 0} (f : X → List ℕ) (w : ℕ) (xs : List X) (i start : ℕ) (x : X) (d : List ℕ) → All (λ x. length (f x) ≡ w) xs → i < length xs → start ≤ length d → written (start + w * i) (f (get_or xs i x)) (written start (flat_map f (take i xs)) d) ≡ written start (flat_map f (take (i + 1) xs)) d
row_written f w xs i start x d h l s =
    let long : length (flat_map f (take i xs)) ≡ w * i = length_joined f w (take i xs) (All-take (λ x. length (f x) ≡ w) i xs h) ∙ ap (λ k. w * k) (length-take-le i xs (omega arith)) in
    written-written start (start + w * i) (flat_map f (take i xs)) (f (get_or xs i x)) d (omega arith) s
    ∙ ap (λ t. written start t d) (flat_map_more f [] (take i xs) (get_or xs i x) ∙ ap (flat_map f) (sym (take_more xs i x l)))

-- a number in two bytes
pub two_bytes : (n : ℕ) → n < 65536 → to_le_bytes w16 n ≡ two n
two_bytes n l = let e : n / 256 % 256 ≡ n / 256 = omega arith in ap (λ k. n % 256 ∷ k ∷ []) e

-- heading, quays and sailings written one after another
pub book_written : (quays : List Quay) (xs : List Sailing) (d : List ℕ) → 16 * (1 + length quays) + 16 * length xs ≤ length d → written (16 * (1 + length quays)) (flat_map sailing_bytes xs) (written 16 (flat_map quay_bytes quays) (written 0 (heading_bytes 1 (length quays) (length xs)) d)) ≡ over (book_bytes quays xs) d
book_written quays xs d l =
    let H = heading_bytes 1 (length quays) (length xs) in
    let Q = flat_map quay_bytes quays in
    let S = flat_map sailing_bytes xs in
    let at = 16 * (1 + length quays) in
    let long = length_joined quay_bytes 16 quays (all_sized quay_bytes 16 (λ x. refl) quays) in
    ap (written at S) (written-written 0 16 H Q d refl (omega arith))
    ∙ written-written 0 at (H ++ Q) S d (omega (arith, long)) (omega arith)
    ∙ ap (λ t. written 0 t d) (append_assoc H Q S)
    ∙ ap (λ k. (H ++ (Q ++ S)) ++ drop k d) (zero-add (length (H ++ (Q ++ S))))
