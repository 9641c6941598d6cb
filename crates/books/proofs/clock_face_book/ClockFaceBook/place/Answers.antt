use Rattle.std.proofs.Common.{◌≡◌, ℕ, Some, None, Ok, Err, Option, refl, sym, ap, ◌∙◌, arith}
use Rattle.std.specs.Option.{ok_or}
use Rattle.std.proofs.lemmas.Result.{err_from_is_err_and}
use Rattle.timetable.specs.declared.refusal.Refusal.{Refusal}
use Rattle.timetable.specs.declared.refusal.Refusal.TheVariants.{NoPlace}
use Rattle.timetable.specs.declared.sailing.Sailing.{Sailing}
use Rattle.image.specs.Meanings.{clock_sailings, changes_of}
use Rattle.image.proofs.Tables.{place_told, place_untold}
use Rattle.books.proofs.clock_face_book.ClockFaceBook.place.Goals as goal

there : (m : Option Sailing) (s : Sailing) → Ok s ≡ ok_or m NoPlace → Some s ≡ m
there None s h = let z : ◌≡◌ {A = ℕ} 0 1 = cc in absurd (omega arith)
there (Some x) s h = cc

gone : (m : Option Sailing) (e : Refusal) → Err e ≡ ok_or m NoPlace → (None ≡ m) × (e ≡ NoPlace)
gone None e h = (refl, cc)
gone (Some x) e h = let z : ◌≡◌ {A = ℕ} 0 1 = cc in absurd (omega arith)

pub returns-in_err-sailing : goal.returns-in_err-sailing
returns-in_err-sailing c =
    let p = err_from_is_err_and c.from_residual.result c.from_residual.ensures.1 in
    let bs = c.args.self.now.bytes.now in
    let g = gone c.member_at.result _ c.in_err-sailing.ensures.value in
    rw (p.1, p.2) (ap Err g.1 ∙ sym (place_untold (changes_of bs) (clock_sailings bs) c.args.place (g.0 ∙ c.member_at.ensures)))

pub returns : goal.returns
returns c =
    let bs = c.args.self.now.bytes.now in
    sym (place_told (changes_of bs) (clock_sailings bs) c.args.place _ (there c.member_at.result _ c.in_ok-sailing.ensures.value ∙ c.member_at.ensures))
