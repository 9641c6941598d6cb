-- A sailing is told exactly by its lines. Assumes nothing.
use Rattle.std.proofs.Common.{◌≡◌, ℕ, cond, eqb, List, length, take, Ok, Err, codes, Result, refl, subst}
use Rattle.std.proofs.lemmas.Bool.{eqb-true, eq-eqb, cond-true}
use Rattle.timetable.specs.declared.sailing.Sailing.{Sailing}
use Rattle.numerals.specs.declared.field.Field.{Field}
use Rattle.numerals.specs.Times.{TimeOfDay}
use Rattle.booktext.specs.declared.entry.LineFault.{LineFault}
use Rattle.booktext.specs.declared.entry.LineFault.TheVariants.{Surplus}
use Rattle.booktext.specs.Fields.{number_here, time_here, and_then}
use Rattle.booktext.specs.Sailings.{sailing_with, sailing_of, SailingLine}
use Rattle.booktext.proofs.Steps.{came, goes, taken, number_stands, number_here_lem, time_stands, time_here_lem}

same_ok : {X : Type 0} (x y : X) → ◌≡◌ {A = Result X LineFault} (Ok x) (Ok y) → x ≡ y
same_ok x y e = cc

-- what is read after five of the fields, and so on down to one
abbrev whole : List ℕ → (run leg from to dep arr : Field ℕ) → Result Sailing LineFault
whole line run leg from to dep arr = cond (eqb arr.next (length line)) (Ok (sailing_with run leg from to dep arr)) (Err (Surplus arr.next))

abbrev after_dep : List ℕ → (run leg from to dep : Field ℕ) → Result Sailing LineFault
after_dep line run leg from to dep = and_then (time_here line dep.next) (λ arr. whole line run leg from to dep arr)

abbrev after_to : List ℕ → (run leg from to : Field ℕ) → Result Sailing LineFault
after_to line run leg from to = and_then (time_here line to.next) (λ dep. after_dep line run leg from to dep)

abbrev after_from : List ℕ → (run leg from : Field ℕ) → Result Sailing LineFault
after_from line run leg from = and_then (number_here line from.next) (λ to. after_to line run leg from to)

abbrev after_leg : List ℕ → (run leg : Field ℕ) → Result Sailing LineFault
after_leg line run leg = and_then (number_here line leg.next) (λ from. after_from line run leg from)

abbrev after_run : List ℕ → Field ℕ → Result Sailing LineFault
after_run line run = and_then (number_here line run.next) (λ leg. after_leg line run leg)

pub sailing_stands : (line : List ℕ) (s : Sailing) → take 7 line ≡ codes "sailing" → sailing_of line ≡ Ok s → SailingLine line s
sailing_stands line s w h =
    let a = came (number_here line 7) (λ f. after_run line f) s h in
    let b = came (number_here line a.mid.next) (λ f. after_leg line a.mid f) s a.then in
    let c = came (number_here line b.mid.next) (λ f. after_from line a.mid b.mid f) s b.then in
    let d = came (number_here line c.mid.next) (λ f. after_to line a.mid b.mid c.mid f) s c.then in
    let e = came (time_here line d.mid.next) (λ f. after_dep line a.mid b.mid c.mid d.mid f) s d.then in
    let f = came (time_here line e.mid.next) (λ f. whole line a.mid b.mid c.mid d.mid e.mid f) s e.then in
    let all = sailing_with a.mid b.mid c.mid d.mid e.mid f.mid in
    let g = taken (eqb f.mid.next (length line)) (Ok all) (Surplus f.mid.next) s f.then in
    subst (λ p. SailingLine line p) {x = all} (same_ok all s g.1)
    (record {
      after_run = a.mid.next;
      after_leg = b.mid.next;
      after_from = c.mid.next;
      after_to = d.mid.next;
      after_dep = e.mid.next;
      word = w;
      run = number_stands line 7 a.mid a.first;
      leg = number_stands line a.mid.next b.mid b.first;
      from = number_stands line b.mid.next c.mid c.first;
      to = number_stands line c.mid.next d.mid d.first;
      dep = time_stands line d.mid.next e.mid e.first;
      arr =
          subst (λ n. TimeOfDay line e.mid.next (record { value = f.mid.value; next = n })) (eqb-true f.mid.next (length line) g.0) (time_stands line e.mid.next f.mid f.first);
    })

pub sailing_here : (line : List ℕ) (s : Sailing) → SailingLine line s → sailing_of line ≡ Ok s
sailing_here line s h =
    let a : Field ℕ = record { value = s.run; next = h.after_run } in
    let b : Field ℕ = record { value = s.leg; next = h.after_leg } in
    let c : Field ℕ = record { value = s.from; next = h.after_from } in
    let d : Field ℕ = record { value = s.to; next = h.after_to } in
    let e : Field ℕ = record { value = s.dep; next = h.after_dep } in
    let f : Field ℕ = record { value = s.arr; next = length line } in
    goes (number_here line 7) (λ p. after_run line p) a s (number_here_lem line 7 a h.run)
    (goes (number_here line a.next) (λ p. after_leg line a p) b s (number_here_lem line a.next b h.leg)
    (goes (number_here line b.next) (λ p. after_from line a b p) c s (number_here_lem line b.next c h.from)
    (goes (number_here line c.next) (λ p. after_to line a b c p) d s (number_here_lem line c.next d h.to)
    (goes (time_here line d.next) (λ p. after_dep line a b c d p) e s (time_here_lem line d.next e h.dep)
    (goes (time_here line e.next) (λ p. whole line a b c d e p) f s (time_here_lem line e.next f h.arr)
    (cond-true (eqb (length line) (length line)) (Ok s) (Err (Surplus (length line))) (eq-eqb (length line) (length line) refl)))))))
