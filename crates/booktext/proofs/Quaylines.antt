-- A quay is told exactly by its lines. Assumes nothing.
use Rattle.std.proofs.Common.{◌≡◌, ℕ, ◌+◌, ◌<◌, ◌≤◌, true, false, cond, eqb, ltb, leb, List, length, get_or, take, drop, replicate, Ok, Err, codes, Result, sym, refl, ap, ◌∙◌, subst, inl, inr, ⊎_elim, arith, length-drop}
use Rattle.std.proofs.lemmas.List.{drop_all}
use Rattle.std.proofs.lemmas.Bool.{cases_Bool, cases_lt, leb-true, eqb-true, ltb-false, le-leb, lt-leb, eq-eqb, le-ltb, cond-true, cond-false}
use Rattle.image.specs.declared.quay.Quay.{Quay}
use Rattle.booktext.specs.declared.entry.LineFault.{LineFault}
use Rattle.booktext.specs.declared.entry.LineFault.TheVariants.{LongName, Surplus}
use Rattle.booktext.specs.Fields.{number_here, and_then}
use Rattle.booktext.specs.Quays.{filled, name_from, quay_of, NameAfter, QuayLine}
use Rattle.booktext.proofs.Steps.{came, goes, taken, left, number_stands, number_here_lem}

same_ok : {X : Type 0} (x y : X) → ◌≡◌ {A = Result X LineFault} (Ok x) (Ok y) → x ≡ y
same_ok x y e = cc

-- what follows the space, if it is short
after_space : List ℕ → ℕ → Result (List ℕ) LineFault
after_space line at = cond (ltb 10 (length (drop (at + 1) line))) (Err LongName) (Ok (filled (drop (at + 1) line)))

-- where the line has ended no letters are left
ended : (line : List ℕ) (at : ℕ) → length line ≤ at → filled (drop (at + 1) line) ≡ replicate 10 32
ended line at l = ap filled (drop_all (at + 1) line (omega arith))

pub name_stands : (line : List ℕ) (at : ℕ) (name : List ℕ) → at ≤ length line → name_from line at ≡ Ok name → NameAfter line at name
unfolding after_space
name_stands line at name inside h = ⊎_elim at_end in_line (cases_Bool (leb (length line) at))
  where
    rest : Result (List ℕ) LineFault
    rest = cond (eqb (get_or line at 0) 32) (after_space line at) (Err (Surplus at))

    at_end : leb (length line) at ≡ true → NameAfter line at name
    at_end t =
        let l : length line ≤ at = leb-true (length line) at t in
        let e : replicate 10 32 ≡ name = same_ok (replicate 10 32) name (sym (cond-true (leb (length line) at) (Ok (replicate 10 32)) rest t) ∙ h) in
        record { parted = inl (omega arith); short = omega (arith, length-drop (at + 1) line); kept = sym e ∙ sym (ended line at l) }

    in_line : leb (length line) at ≡ false → NameAfter line at name
    in_line t =
        let a = taken (eqb (get_or line at 0) 32) (after_space line at) (Surplus at) name (sym (cond-false (leb (length line) at) (Ok (replicate 10 32)) rest t) ∙ h) in
        let b = left (ltb 10 (length (drop (at + 1) line))) (Ok (filled (drop (at + 1) line))) LongName name a.1 in
        record {
          parted = inr (eqb-true (get_or line at 0) 32 a.0);
          short = ltb-false 10 (length (drop (at + 1) line)) b.0;
          kept = sym (same_ok (filled (drop (at + 1) line)) name b.1);
        }

pub name_here : (line : List ℕ) (at : ℕ) (name : List ℕ) → NameAfter line at name → name_from line at ≡ Ok name
unfolding after_space
name_here line at name h = ⊎_elim at_end in_line (cases_lt at (length line))
  where
    rest : Result (List ℕ) LineFault
    rest = cond (eqb (get_or line at 0) 32) (after_space line at) (Err (Surplus at))

    in_line : length line ≤ at → name_from line at ≡ Ok name
    in_line l = cond-true (leb (length line) at) (Ok (replicate 10 32)) rest (le-leb (length line) at l) ∙ ap Ok (sym (h.kept ∙ ended line at l))

    space : at < length line → get_or line at 0 ≡ 32
    space l = ⊎_elim (λ e. absurd (omega arith)) (λ e. e) h.parted

    at_end : at < length line → name_from line at ≡ Ok name
    at_end l =
        cond-false (leb (length line) at) (Ok (replicate 10 32)) rest (lt-leb (length line) at l)
        ∙ (cond-true (eqb (get_or line at 0) 32) (after_space line at) (Err (Surplus at)) (eq-eqb (get_or line at 0) 32 (space l))
        ∙ (cond-false (ltb 10 (length (drop (at + 1) line))) (Err LongName) (Ok (filled (drop (at + 1) line))) (le-ltb 10 (length (drop (at + 1) line)) h.short) ∙ ap Ok (sym h.kept)))

pub quay_stands : (line : List ℕ) (q : Quay) → take 4 line ≡ codes "quay" → quay_of line ≡ Ok q → QuayLine line q
quay_stands line q w h =
    let a = came (number_here line 4) (λ f. and_then (name_from line f.next) (λ name. Ok (record { change = f.value; name = name }))) q h in
    let b = came (name_from line a.mid.next) (λ name. Ok (record { change = a.mid.value; name = name })) q a.then in
    let n = number_stands line 4 a.mid a.first in
    subst (λ p. QuayLine line p) (same_ok (record { change = a.mid.value; name = b.mid }) q b.then)
    (record { end = a.mid.next; word = w; minutes = n; name = name_stands line a.mid.next b.mid n.inside b.first })

pub quay_here : (line : List ℕ) (q : Quay) → QuayLine line q → quay_of line ≡ Ok q
quay_here line q h =
    goes (number_here line 4) (λ f. and_then (name_from line f.next) (λ name. Ok (record { change = f.value; name = name }))) (record { value = q.change; next = h.end }) q (number_here_lem line 4 (record { value = q.change; next = h.end }) h.minutes)
    (goes (name_from line h.end) (λ name. Ok (record { change = q.change; name = name })) q.name q (name_here line h.end q.name h.name) refl)
