-- Bounds that hold from leg to leg hold for every journey. Assumes nothing.
use Rattle.std.proofs.Common.{◌≡◌, ℕ, zero, suc, ◌+◌, ◌<◌, ◌≤◌, Bool, true, not, ◌&&◌, ◌||◌, eqb, List, [], ◌∷◌, length, get_or, Some, None, Option, sym, refl, ◌∙◌, subst, inl, inr, ⊎_elim, arith}
use Rattle.std.proofs.lemmas.List.{get_or_past}
use Rattle.std.proofs.lemmas.Bool.{cases_lt, eq-eqb, leb-true, and_parts, or_cases, not_from_true, true≢false, false≢true}
use Rattle.timetable.specs.declared.sailing.Sailing.{Sailing}
use Rattle.timetable.specs.declared.query.Query.{Query}
use Rattle.timetable.specs.declared.query.Leg.{Leg}
use Rattle.timetable.specs.Classes.{class_minutes}
use Rattle.timetable.specs.Times.{length_of, next}
use Rattle.timetable.specs.Timetables.{Timetable, place_at}
use Rattle.timetable.proofs.Laws.{next_least, next_mono}
use Rattle.journey.specs.Journeys.{wait, Stand, start, after, Leads, Journey}
use Rattle.cases.proofs.Tests.{all_below, Potential, is_not_after, boards, leaves_by, lands, lands_at, stays, no_sooner}

-- the minute keeps to the bound
abbrev pub Keeps : Option ℕ → ℕ → Type 0
Keeps None a = ⊥
Keeps (Some x) a = x ≤ a

not_after : (b : Option ℕ) (m : ℕ) → is_not_after b m ≡ true → Keeps b m
not_after None m h = absurd (false≢true h)
not_after (Some x) m h = leb-true x m h

keeps-later : (b : Option ℕ) (m n : ℕ) → m ≤ n → Keeps b m → Keeps b n
keeps-later None m n h k = k
keeps-later (Some x) m n h k = omega arith

pub all_below_lem : (f : ℕ → Bool) (n : ℕ) → all_below f n ≡ true → (p : ℕ) → p < n → f p ≡ true
all_below_lem f zero h p less = absurd (omega arith)
all_below_lem f (suc n) h p less =
    let both : (f n ≡ true) × (all_below f n ≡ true) = and_parts _ _ h in
    elim (cases_lt p n) [
      | inl l ↦ all_below_lem f n both.1 p l
      | inr g ↦ let e : n ≡ p = omega arith in subst (λ k. f k ≡ true) e both.0
    ]

-- a sailing stands at a place of the row
pub inside : (t : Timetable) (p : ℕ) (s : Sailing) → place_at t p ≡ Some s → p < length t.places
inside t p s e = elim (cases_lt p (length t.places)) [
  | inl h ↦ h
  | inr h ↦ let n : place_at t p ≡ None = get_or_past t.places p None h in let z : ◌≡◌ {A = ℕ} 0 1 = cc in omega arith
]

-- the first test fails where the numbers are the same, so the second holds
unless : (a b : ℕ) (c : Bool) → a ≡ b → (not (eqb a b) || c) ≡ true → c ≡ true
unless a b c e h = ⊎_elim (λ x. absurd (true≢false (sym x ∙ not_from_true (eqb a b) (eq-eqb a b e)))) (λ y. y) (or_cases (not (eqb a b)) c h)

-- whatever sailing is taken from here, its arrival keeps to the bound of its place
abbrev pub Covers : Timetable → Potential → Stand → Type 0
Covers t bounds here = (p : ℕ) (s : Sailing) → place_at t p ≡ Some s → s.from ≡ here.quay → Keeps (get_or bounds p None) (next s (here.due s) + length_of s)

pub covers : (t : Timetable) (bounds : Potential) (here : Stand) → leaves_by t bounds here ≡ true → Covers t bounds here
covers t bounds here h p s e f =
    let at : boards here (place_at t p) (get_or bounds p None) ≡ true = all_below_lem _ (length t.places) h p (inside t p s e) in
    let on : boards here (Some s) (get_or bounds p None) ≡ true = subst (λ x. boards here x (get_or bounds p None) ≡ true) e at in
    not_after _ _ (unless s.from here.quay _ f on)

-- who arrives later is covered too, since the next departure never falls with the minute
covers_later : (t : Timetable) (extra : ℕ) (bounds : Potential) (r : Sailing) (m n : ℕ) → m ≤ n → Covers t bounds (after t extra r m) → Covers t bounds (after t extra r n)
covers_later t extra bounds r m n h c p s e f =
    let soon = next_mono s (m + wait t extra r s) (n + wait t extra r s) (omega arith) in
    keeps-later (get_or bounds p None) _ _ (omega (arith, soon)) (c p s e f)

module _ (t : Timetable) (q : Query) (answer : Option ℕ) (bounds : Potential) (h : no_sooner t q answer bounds ≡ true) where
  begins : (stays q answer && leaves_by t bounds (start q.from q.minute)) ≡ true
  begins = (and_parts (stays q answer && leaves_by t bounds (start q.from q.minute)) (all_below (lands_at t q answer bounds) (length t.places)) h).0

  landed : (p : ℕ) (r : Sailing) (m : ℕ) → place_at t p ≡ Some r → get_or bounds p None ≡ Some m → lands t q answer bounds (Some r) (Some m) ≡ true
  landed p r m e f =
      let at : lands t q answer bounds (place_at t p) (get_or bounds p None) ≡ true = all_below_lem (lands_at t q answer bounds) (length t.places) (and_parts (stays q answer && leaves_by t bounds (start q.from q.minute)) _ h).1 p (inside t p r e) in
      let by : lands t q answer bounds (Some r) (get_or bounds p None) ≡ true = subst (λ x. lands t q answer bounds x (get_or bounds p None) ≡ true) e at in
      subst (λ x. lands t q answer bounds (Some r) x ≡ true) f by

  -- from a stand that is covered, no legs lead to the goal before the answer
  bounded : (here : Stand) (legs : List Leg) (a : ℕ) → Covers t bounds here → (here.quay ≡ q.to → Keeps answer here.minute) → Leads t (class_minutes q.class) here legs q.to a → Keeps answer a
  bounded here [] a c end (e, m) = subst (λ x. Keeps answer x) m (end e)
  bounded here (leg ∷ legs) a c end (s, f, rest) =
      go (get_or bounds leg.place None) refl (c leg.place s f.sailing f.quay) (bounded (after t (class_minutes q.class) s leg.arrives) legs a)
    where
      go : (b : Option ℕ) → get_or bounds leg.place None ≡ b → Keeps b (next s (here.due s) + length_of s)
          → (Covers t bounds (after t (class_minutes q.class) s leg.arrives) → (s.to ≡ q.to → Keeps answer leg.arrives) → Leads t (class_minutes q.class) (after t (class_minutes q.class) s leg.arrives) legs q.to a → Keeps answer a)
          → Keeps answer a
      go None e k again = absurd k
      go (Some m) e k again =
          let soon = next_least s (here.due s) leg.leaves f.leaves f.ready in
          let due = f.arrives in
          let late : m ≤ leg.arrives = omega arith in
          let land = and_parts _ _ (landed leg.place s m f.sailing e) in
          again
          (covers_later t (class_minutes q.class) bounds s m leg.arrives late (covers t bounds (after t (class_minutes q.class) s m) land.0))
          (λ there. keeps-later answer m leg.arrives late (not_after answer m (unless s.to q.to _ there land.1)))
          rest

  pub no_sooner_lem : (legs : List Leg) (a : ℕ) → Journey t q legs a → Keeps answer a
  no_sooner_lem legs a j =
      bounded (start q.from q.minute) legs a
      (covers t bounds (start q.from q.minute) (and_parts (stays q answer) _ begins).1)
      (λ there. not_after answer q.minute (unless q.from q.to _ there (and_parts (stays q answer) _ begins).0))
      j
