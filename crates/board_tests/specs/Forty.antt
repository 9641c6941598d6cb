-- What a book of forty quays and no sailings means. Assumes nothing.
use Rattle.std.specs.Prelude.{◌≡◌, ℕ, zero, suc, ◌<◌, ◌≤◌, [], replicate, slice_index_or, refl}
use Rattle.std.proofs.Common.{sym, subst, arith}
use Rattle.timetable.specs.declared.span.Span.{Span}
use Rattle.timetable.specs.Times.{day}
use Rattle.timetable.specs.Timetables.{Timetable, nowhere, Lawful}

abbrev pub forty : Timetable
forty = record { changes = replicate 40 0; places = []; spans = replicate 40 nowhere }

-- each row of a table of one value tells that value, and so does what is no row
pub all_alike : {X : Type 0} (n : ℕ) (x : X) (p : ℕ) → slice_index_or (replicate n x) p x ≡ x
all_alike zero x p = refl
all_alike (suc n) x zero = refl
all_alike (suc n) x (suc p) = all_alike n x p

pub forty_lawful : Lawful forty
forty_lawful = record {
  some_quay = omega arith;
  few_quays = omega arith;
  few_places = omega arith;
  as_many_spans = refl;
  change_day = λ q. subst (λ (m : ℕ). m < day) (sym (all_alike 40 0 q)) (omega arith);
  within = λ p s e. let z : ◌≡◌ {A = ℕ} 0 1 = cc in absurd (omega arith);
  span_order = λ q. subst (λ (x : Span). x.start ≤ x.end) (sym (all_alike 40 nowhere q)) (omega arith);
  span_end = λ q. subst (λ (x : Span). x.end ≤ 0) (sym (all_alike 40 nowhere q)) (omega arith);
  spanned = λ p s e. let z : ◌≡◌ {A = ℕ} 0 1 = cc in absurd (omega arith);
}
