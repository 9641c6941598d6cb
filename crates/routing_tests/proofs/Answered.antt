-- What a book of four quays answers. Assumes nothing.
use Rattle.std.proofs.Common.{◌≡◌, ℕ, ◌<◌, List, length, get_or, take, None, Ok, Option, Result, sym, ap, ◌∙◌, arith}
use Rattle.std.proofs.lemmas.List.{get_or-map, get_or-take, length-map}
use Rattle.timetable.specs.declared.refusal.Refusal.{Refusal}
use Rattle.timetable.specs.declared.refusal.Refusal.TheVariants.{NoPlace, NoQuay}
use Rattle.timetable.specs.declared.sailing.Sailing.{Sailing}
use Rattle.timetable.specs.declared.span.Span.{Span}
use Rattle.timetable.specs.Answers.{asked, span_of}
use Rattle.timetable.specs.Timetables.{nowhere}
use Rattle.timetable.proofs.Told.{asked_in}
use Rattle.routing_tests.specs.Books.{content_of, places_of, whole, meant}
use Rattle.routing_tests.specs.Fair.{places_many, span_at_lem}

pub place_told : (sailings : List Sailing) (p : ℕ) (d : Sailing) → p < length (places_of sailings) → Ok (content_of (get_or sailings p d)) ≡ asked (places_of sailings) p None NoPlace
place_told sailings p d h =
    let few : p < 3072 = omega (arith, places_many sailings) in
    let e : get_or (places_of sailings) p None ≡ content_of (get_or sailings p d) =
    get_or-map content_of (take 3072 sailings) p d None (omega (arith, length-map (take 3072 sailings) content_of)) ∙ ap content_of (get_or-take 3072 sailings p d few) in
    ap {B = Result (Option Sailing) Refusal} Ok (sym e) ∙ sym (asked_in (places_of sailings) p None NoPlace h)

pub span_told : (c : ℕ × ℕ × ℕ × ℕ) (sailings : List Sailing) (q n : ℕ) → q < 4 → n ≡ length (places_of sailings) → Ok (whole n) ≡ span_of (meant c sailings) q
span_told c sailings q n h e =
    ap {B = Result Span Refusal} (λ k. Ok (whole k)) e ∙ ap {B = Result Span Refusal} Ok (sym (span_at_lem c sailings q h)) ∙ sym (asked_in (meant c sailings).spans q nowhere NoQuay h)
