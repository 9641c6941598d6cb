-- A check finds the first of all that is wrong. Assumes nothing.
use Rattle.std.proofs.Common.{◌≡◌, ℕ, zero, suc, ◌+◌, ◌*◌, ◌<◌, ◌≤◌, Bool, true, false, not, ◌&&◌, eqb, ltb, leb, ◌⊎◌, List, length, get_or, Ok, Err, sym, refl, ap, ◌∙◌, subst, inl, inr, ⊎_elim, mul-zero, mul-suc, arith}
use Rattle.std.specs.Result.{result_and}
use Rattle.std.proofs.lemmas.Bool.{cases_eq}
use Rattle.std.proofs.lemmas.Bool.Decides.{nat_tests}
use Rattle.image.specs.declared.fault.Fault.{Fault}
use Rattle.timetable.specs.declared.refusal.Refusal.{Refusal}
use Rattle.timetable.specs.declared.refusal.Refusal.TheVariants.{CutOff, NotDue, OutOfLimits, FromFalls, BytesFollow, SeriesLeaves}
use Rattle.image.specs.declared.fault.Part.{Part}
use Rattle.image.specs.declared.fault.Part.TheVariants.{Heading, Quays, Entries, End}
use Rattle.image.specs.Checks.{Check, unless, up_to, fault, frame, heading, zero_byte, quay, name_byte, ends, from_before, sailing, rhythm, keeps, counts, places_to, series, ending, printed_check, clock_check}
use Rattle.image.specs.Records.{number_at, quay_start, entry_at, quays_in, entries_in}
use Rattle.timetable.specs.Refusals.{number_of}
use Rattle.image.specs.Faults.{Before, Is, Not, FrameWrong, SomeRow, HeadingWrong, QuayWrong, EndsWrong, SailingWrong, SeriesLeaving, RhythmWrong, CountsWrong, SeriesWrong, PrintedWrong, ClockWrong, First, Told}
use Rattle.timetable.proofs.Numbers.{number_below}

abbrev weight : Fault → ℕ
weight g = 64 * g.byte + number_of g.refusal

before_from : (e g : Fault) → weight e ≤ weight g → Before e g
before_from e g h = record { byte_order = omega (arith, number_below e.refusal, number_below g.refusal); number_order = λ s. omega arith }

-- the check r finds the first of the faults W, which stand from lo up to hi
pub record Finds (r : Check) (W : Fault → Type 0) (lo hi : ℕ) : Type 0 where
  pub clear : r ≡ Ok tt → (g : Fault) → W g → ⊥
  pub here : (e : Fault) → r ≡ Err e → W e
  pub least : (e : Fault) → r ≡ Err e → (g : Fault) → W g → weight e ≤ weight g
  pub from_lo : (g : Fault) → W g → lo ≤ weight g
  pub to_hi : (g : Fault) → W g → weight g < hi
  pub single : (e g : Fault) → W e → W g → weight e ≡ weight g → e ≡ g

pub leaf : (b : Bool) (f : Fault) (P : Type 0) (lo hi : ℕ) → (b ≡ true → P → ⊥) → (b ≡ false → P) → lo ≤ weight f → weight f < hi → Finds (unless b f) (Is f P) lo hi
leaf true f P lo hi so else-so l h = record {
  clear = λ e g w. so refl w.0;
  here = λ e x. let z : ◌≡◌ {A = ℕ} 0 1 = cc in absurd (omega arith);
  least = λ e x g w. absurd (so refl w.0);
  from_lo = λ g w. absurd (so refl w.0);
  to_hi = λ g w. absurd (so refl w.0);
  single = λ e g w v x. absurd (so refl w.0);
}
leaf false f P lo hi so else-so l h = record {
  clear = λ e g w. let z : ◌≡◌ {A = ℕ} 0 1 = cc in omega arith;
  here = λ e x. let s : e ≡ f = cc in (else-so refl, s);
  least = λ e x g w. let s : e ≡ f = cc in omega (arith, ap weight s, ap weight w.1);
  from_lo = λ g w. omega (arith, ap weight w.1);
  to_hi = λ g w. omega (arith, ap weight w.1);
  single = λ e g w v x. w.1 ∙ sym v.1;
}

apart_single : (W V : Fault → Type 0) (lo mid hi : ℕ) → ((g : Fault) → W g → weight g < mid) → ((g : Fault) → V g → mid ≤ weight g) → ((e g : Fault) → W e → W g → weight e ≡ weight g → e ≡ g) → ((e g : Fault) → V e → V g → weight e ≡ weight g → e ≡ g)
    → (e g : Fault) → W e ⊎ V e → W g ⊎ V g → weight e ≡ weight g → e ≡ g
apart_single W V lo mid hi under over a b e g x y s =
    ⊎_elim
    (λ w. ⊎_elim (λ v. a e g w v s) (λ v. absurd (omega (arith, under e w, over g v))) y)
    (λ w. ⊎_elim (λ v. absurd (omega (arith, under g v, over e w))) (λ v. b e g w v s) y)
    x

-- one check and then another, whose faults stand later
pub joint : (r s : Check) (W V : Fault → Type 0) (lo mid hi : ℕ) → Finds r W lo mid → Finds s V mid hi → lo ≤ mid → mid ≤ hi → Finds (result_and r s) (λ g. W g ⊎ V g) lo hi
joint (Ok x) s W V lo mid hi a b l h = record {
  clear = λ e g w. ⊎_elim (λ p. a.clear refl g p) (λ p. b.clear e g p) w;
  here = λ e x. inr (b.here e x);
  least = λ e x g w. ⊎_elim (λ p. absurd (a.clear refl g p)) (λ p. b.least e x g p) w;
  from_lo = λ g w. ⊎_elim (λ p. a.from_lo g p) (λ p. omega (arith, b.from_lo g p)) w;
  to_hi = λ g w. ⊎_elim (λ p. omega (arith, a.to_hi g p)) (λ p. b.to_hi g p) w;
  single = apart_single W V lo mid hi a.to_hi b.from_lo a.single b.single;
}
joint (Err f) s W V lo mid hi a b l h = record {
  clear = λ e g w. let z : ◌≡◌ {A = ℕ} 0 1 = cc in omega arith;
  here = λ e x. inl (a.here e x);
  least = λ e x g w. ⊎_elim (λ p. a.least e x g p) (λ p. omega (arith, b.from_lo g p, a.to_hi e (a.here e x))) w;
  from_lo = λ g w. ⊎_elim (λ p. a.from_lo g p) (λ p. omega (arith, b.from_lo g p)) w;
  to_hi = λ g w. ⊎_elim (λ p. omega (arith, a.to_hi g p)) (λ p. b.to_hi g p) w;
  single = apart_single W V lo mid hi a.to_hi b.from_lo a.single b.single;
}

pub wider : (r : Check) (W : Fault → Type 0) (lo hi low high : ℕ) → low ≤ lo → hi ≤ high → Finds r W lo hi → Finds r W low high
wider r W lo hi low high l h a = record { clear = a.clear; here = a.here; least = a.least; from_lo = λ g w. omega (arith, a.from_lo g w); to_hi = λ g w. omega (arith, a.to_hi g w); single = a.single }

pub alike : (r : Check) (W V : Fault → Type 0) (lo hi : ℕ) → ((g : Fault) → W g → V g) → ((g : Fault) → V g → W g) → Finds r W lo hi → Finds r V lo hi
alike r W V lo hi to from a = record { clear = λ e g w. a.clear e g (from g w); here = λ e x. to e (a.here e x); least = λ e x g w. a.least e x g (from g w); from_lo = λ g w. a.from_lo g (from g w); to_hi = λ g w. a.to_hi g (from g w); single = λ e g w v x. a.single e g (from e w) (from g v) x }

-- a row of checks, each with its own stretch
pub rows : (f : ℕ → Check) (W : ℕ → Fault → Type 0) (at : ℕ → ℕ) → ((k : ℕ) → at k ≤ at (suc k)) → ((k : ℕ) → Finds (f k) (W k) (at k) (at (suc k))) → (n : ℕ) → (at 0 ≤ at n) × Finds (up_to f n) (SomeRow n W) (at 0) (at n)
rows f W at up h zero = (
  omega arith,
  record {
    clear = λ e g w. omega (arith, w.1.0);
    here = λ e x. let z : ◌≡◌ {A = ℕ} 0 1 = cc in absurd (omega arith);
    least = λ e x g w. absurd (omega (arith, w.1.0));
    from_lo = λ g w. absurd (omega (arith, w.1.0));
    to_hi = λ g w. absurd (omega (arith, w.1.0));
    single = λ e g w v x. absurd (omega (arith, w.1.0));
  },
)
rows f W at up h (suc n) =
    let r = rows f W at up h n in (
      omega (arith, r.0, up n),
      alike (up_to f (suc n)) (λ g. SomeRow n W g ⊎ W n g) (SomeRow (suc n) W) (at 0) (at (suc n))
          (λ g w. ⊎_elim (λ p. (p.0, (omega (arith, p.1.0), p.1.1))) (λ p. (n, (omega arith, p))) w)
          (λ g w. ⊎_elim (λ same. inr (subst (λ k. W k g) same w.1.1)) (λ other. inl (w.0, (omega (arith, w.1.0), w.1.1))) (cases_eq w.0 n))
          (joint (up_to f n) (f n) (SomeRow n W) (W n) (at 0) (at n) (at (suc n)) r.1 (h n) r.0 (up n)),
    )

pub first_from : (r : Check) (W : Fault → Type 0) (lo hi : ℕ) → Finds r W lo hi → (e : Fault) → r ≡ Err e → First W e
first_from r W lo hi a e x = record { wrong = a.here e x; first = λ g w. before_from e g (a.least e x g w) }

weight_from_lem : (e g : Fault) → Before e g → weight e ≤ weight g
weight_from_lem e g h = ⊎_elim (λ same. omega (arith, h.number_order same)) (λ other. omega (arith, h.byte_order, number_below e.refusal, number_below g.refusal)) (cases_eq e.byte g.byte)

pub error_from : (r : Check) (W : Fault → Type 0) (lo hi : ℕ) → Finds r W lo hi → (e : Fault) → First W e → r ≡ Err e
error_from (Ok x) W lo hi a e h = absurd (a.clear refl e h.wrong)
error_from (Err f) W lo hi a e h =
    let w = a.here f refl in
    ap Err (a.single f e w h.wrong (omega (arith, a.least f refl e h.wrong, weight_from_lem e f (h.first f w))))

frame_finds : (bs : List ℕ) (at long kind : ℕ) (p : Part) (n : ℕ) → Finds (frame bs at long kind p n) (FrameWrong bs at long kind p n) (64 * at) (64 * (at + 4))
frame_finds bs at long kind p n =
    joint _ _ _ _ (64 * at) (64 * at + 2) (64 * (at + 4))
    (leaf (leb (at + (2 + long)) (length bs)) (fault CutOff p n at) (length bs < at + (2 + long)) (64 * at) (64 * at + 2) (λ a b. grind (arith, nat_tests, a, b)) (λ a. grind (arith, nat_tests, a)) (omega arith) (omega arith))
    (joint _ _ _ _ (64 * at + 2) (64 * at + 3) (64 * (at + 4))
    (leaf (eqb (number_at bs at) long) (fault NotDue p n at) (Not (number_at bs at ≡ long)) (64 * at + 2) (64 * at + 3) (λ a b. b (grind (arith, nat_tests, a))) (λ a b. grind (arith, nat_tests, a, b)) (omega arith) (omega arith))
    (leaf (eqb (number_at bs (at + 2)) kind) (fault NotDue p n (at + 2)) (Not (number_at bs (at + 2) ≡ kind)) (64 * at + 3) (64 * (at + 4)) (λ a b. b (grind (arith, nat_tests, a))) (λ a b. grind (arith, nat_tests, a, b)) (omega arith) (omega arith))
    (omega arith) (omega arith))
    (omega arith) (omega arith)

-- a test of a field, whose fault stands alone at its byte
field : (b : Bool) (w : Refusal) (p : Part) (n at : ℕ) (P : Type 0) → (b ≡ true → P → ⊥) → (b ≡ false → P) → (next : ℕ) → at < next → Finds (unless b (fault w p n at)) (Is (fault w p n at) P) (64 * at) (64 * next)
field b w p n at P so else-so next l = leaf b (fault w p n at) P (64 * at) (64 * next) so else-so (omega arith) (omega (arith, number_below w))

heading_finds : (bs : List ℕ) (kind most : ℕ) → Finds (heading bs kind most) (HeadingWrong bs kind most) (64 * 0) (64 * 16)
heading_finds bs kind most =
    let zeros = rows (zero_byte bs) (λ i. Is (fault OutOfLimits Heading 0 (8 + i)) (Not (get_or bs (8 + i) 0 ≡ 0))) (λ i. 64 * (8 + i)) (λ i. omega arith)
    (λ i. field (eqb (get_or bs (8 + i) 0) 0) OutOfLimits Heading 0 (8 + i) (Not (get_or bs (8 + i) 0 ≡ 0)) (λ a b. b (grind (arith, nat_tests, a))) (λ a b. grind (arith, nat_tests, a, b)) (8 + suc i) (omega arith)) 8 in
    joint _ _ _ _ (64 * 0) (64 * 4) (64 * 16) (frame_finds bs 0 14 kind Heading 0)
    (joint _ _ _ _ (64 * 4) (64 * 6) (64 * 16)
    (field (leb 1 (quays_in bs) && leb (quays_in bs) 256) OutOfLimits Heading 0 4 ((quays_in bs < 1) ⊎ (256 < quays_in bs)) (λ a b. grind (arith, nat_tests, a, b)) (λ a. grind (arith, nat_tests, a)) 6 (omega arith))
    (joint _ _ _ _ (64 * 6) (64 * 8) (64 * 16)
    (field (leb (entries_in bs) most) OutOfLimits Heading 0 6 (most < entries_in bs) (λ a b. grind (arith, nat_tests, a, b)) (λ a. grind (arith, nat_tests, a)) 8 (omega arith))
    zeros.1
    (omega arith) (omega arith))
    (omega arith) (omega arith))
    (omega arith) (omega arith)

quay_finds : (bs : List ℕ) (row : ℕ) → Finds (quay bs row) (QuayWrong bs row) (64 * quay_start row) (64 * quay_start (suc row))
quay_finds bs row =
    let at = quay_start row in
    let name = rows (name_byte bs row) (λ i. Is (fault OutOfLimits Quays row (at + 6 + i)) ((get_or bs (at + 6 + i) 0 < 32) ⊎ (126 < get_or bs (at + 6 + i) 0))) (λ i. 64 * (at + 6 + i)) (λ i. omega arith)
    (λ i. field (leb 32 (get_or bs (at + 6 + i) 0) && leb (get_or bs (at + 6 + i) 0) 126) OutOfLimits Quays row (at + 6 + i) ((get_or bs (at + 6 + i) 0 < 32) ⊎ (126 < get_or bs (at + 6 + i) 0)) (λ a b. grind (arith, nat_tests, a, b)) (λ a. grind (arith, nat_tests, a)) (at + 6 + suc i) (omega arith)) 10 in
    joint _ _ _ _ (64 * at) (64 * (at + 6 + 0)) (64 * quay_start (suc row))
    (joint _ _ _ _ (64 * at) (64 * (at + 4)) (64 * (at + 6 + 0)) (frame_finds bs at 14 3 Quays row)
    (field (leb (number_at bs (at + 4)) 1439) OutOfLimits Quays row (at + 4) (1439 < number_at bs (at + 4)) (λ a b. grind (arith, nat_tests, a, b)) (λ a. grind (arith, nat_tests, a)) (at + 6 + 0) (omega arith))
    (omega arith) (omega arith))
    (wider _ _ (64 * (at + 6 + 0)) (64 * (at + 6 + 10)) _ _ (omega arith) (omega arith) name.1)
    (omega arith) (omega arith)

ends_finds : (bs : List ℕ) (quays row at wide : ℕ) → Finds (ends bs quays row at wide) (EndsWrong bs quays row at wide) (64 * (at + 4)) (64 * (at + 12))
ends_finds bs quays row at wide =
    joint _ _ _ _ (64 * (at + 4)) (64 * (at + 8) + 4) (64 * (at + 12))
    (leaf (ltb (number_at bs (at + 8)) quays) (fault OutOfLimits Entries row (at + 8)) (quays ≤ number_at bs (at + 8)) (64 * (at + 4)) (64 * (at + 8) + 4) (λ a b. grind (arith, nat_tests, a, b)) (λ a. grind (arith, nat_tests, a)) (omega arith) (omega arith))
    (joint _ _ _ _ (64 * (at + 8) + 4) (64 * (at + 10)) (64 * (at + 12))
    (leaf (leb (from_before bs row at wide) (number_at bs (at + 8))) (fault FromFalls Entries row (at + 8)) (number_at bs (at + 8) < from_before bs row at wide) (64 * (at + 8) + 4) (64 * (at + 10)) (λ a b. grind (arith, nat_tests, a, b)) (λ a. grind (arith, nat_tests, a)) (omega arith) (omega arith))
    (field (ltb (number_at bs (at + 10)) quays && not (eqb (number_at bs (at + 10)) (number_at bs (at + 8)))) OutOfLimits Entries row (at + 10) ((quays ≤ number_at bs (at + 10)) ⊎ (number_at bs (at + 10) ≡ number_at bs (at + 8))) (λ a b. grind (arith, nat_tests, a, b)) (λ a. grind (arith, nat_tests, a)) (at + 12) (omega arith))
    (omega arith) (omega arith))
    (omega arith) (omega arith)

sailing_finds : (bs : List ℕ) (quays row : ℕ) → Finds (sailing bs quays row) (SailingWrong bs quays row) (64 * entry_at 16 quays row) (64 * entry_at 16 quays (suc row))
sailing_finds bs quays row =
    let at = entry_at 16 quays row in
    let hi = 64 * entry_at 16 quays (suc row) in
    joint _ _ _ _ (64 * at) (64 * (at + 4)) hi (frame_finds bs at 14 4 Entries row)
    (joint _ _ _ _ (64 * (at + 4)) (64 * (at + 12)) hi (ends_finds bs quays row at 16)
    (joint _ _ _ _ (64 * (at + 12)) (64 * (at + 14)) hi
    (field (leb (number_at bs (at + 12)) 1439) OutOfLimits Entries row (at + 12) (1439 < number_at bs (at + 12)) (λ a b. grind (arith, nat_tests, a, b)) (λ a. grind (arith, nat_tests, a)) (at + 14) (omega arith))
    (field (leb (number_at bs (at + 14)) 1439) OutOfLimits Entries row (at + 14) (1439 < number_at bs (at + 14)) (λ a b. grind (arith, nat_tests, a, b)) (λ a. grind (arith, nat_tests, a)) (entry_at 16 quays (suc row)) (omega arith))
    (omega arith) (omega arith))
    (omega arith) (omega arith))
    (omega arith) (omega arith)

rhythm_finds : (bs : List ℕ) (row at : ℕ) → Finds (rhythm bs row at) (RhythmWrong bs row at) (64 * (at + 12)) (64 * (at + 16))
rhythm_finds bs row at =
    joint _ _ _ _ (64 * (at + 12)) (64 * (at + 14)) (64 * (at + 16))
    (field (leb (number_at bs (at + 12)) 1439) OutOfLimits Entries row (at + 12) (1439 < number_at bs (at + 12)) (λ a b. grind (arith, nat_tests, a, b)) (λ a. grind (arith, nat_tests, a)) (at + 14) (omega arith))
    (field (leb 1 (number_at bs (at + 14)) && leb (number_at bs (at + 14)) 1439) OutOfLimits Entries row (at + 14) ((number_at bs (at + 14) < 1) ⊎ (1439 < number_at bs (at + 14))) (λ a b. grind (arith, nat_tests, a, b)) (λ a. grind (arith, nat_tests, a)) (at + 16) (omega arith))
    (omega arith) (omega arith)

keeps_not : (run first period count before : ℕ) → keeps run first period count before ≡ true → SeriesLeaving run first period count before → ⊥
keeps_not run first period count before a b = grind (arith, nat_tests, a, b)

keeps_else : (run first period count before : ℕ) → keeps run first period count before ≡ false → SeriesLeaving run first period count before
keeps_else run first period count before a = grind (arith, nat_tests, a)

counts_finds : (bs : List ℕ) (row at before : ℕ) → Finds (counts bs row at before) (CountsWrong bs row at before) (64 * (at + 16)) (64 * (at + 20))
counts_finds bs row at before =
    joint _ _ _ _ (64 * (at + 16)) (64 * (at + 16) + 4) (64 * (at + 20))
    (leaf (leb 1 (number_at bs (at + 16)) && leb (number_at bs (at + 16)) 1440) (fault OutOfLimits Entries row (at + 16)) ((number_at bs (at + 16) < 1) ⊎ (1440 < number_at bs (at + 16))) (64 * (at + 16)) (64 * (at + 16) + 4) (λ a b. grind (arith, nat_tests, a, b)) (λ a. grind (arith, nat_tests, a)) (omega arith) (omega arith))
    (joint _ _ _ _ (64 * (at + 16) + 4) (64 * (at + 18)) (64 * (at + 20))
    (leaf (keeps (number_at bs (at + 4)) (number_at bs (at + 12)) (number_at bs (at + 14)) (number_at bs (at + 16)) before) (fault SeriesLeaves Entries row (at + 16)) (SeriesLeaving (number_at bs (at + 4)) (number_at bs (at + 12)) (number_at bs (at + 14)) (number_at bs (at + 16)) before) (64 * (at + 16) + 4) (64 * (at + 18))
    (keeps_not (number_at bs (at + 4)) (number_at bs (at + 12)) (number_at bs (at + 14)) (number_at bs (at + 16)) before) (keeps_else (number_at bs (at + 4)) (number_at bs (at + 12)) (number_at bs (at + 14)) (number_at bs (at + 16)) before) (omega arith) (omega arith))
    (field (leb (number_at bs (at + 18)) 1439) OutOfLimits Entries row (at + 18) (1439 < number_at bs (at + 18)) (λ a b. grind (arith, nat_tests, a, b)) (λ a. grind (arith, nat_tests, a)) (at + 20) (omega arith))
    (omega arith) (omega arith))
    (omega arith) (omega arith)

series_finds : (bs : List ℕ) (quays row : ℕ) → Finds (series bs quays row) (SeriesWrong bs quays row) (64 * entry_at 20 quays row) (64 * entry_at 20 quays (suc row))
series_finds bs quays row =
    let at = entry_at 20 quays row in
    let hi = 64 * entry_at 20 quays (suc row) in
    joint _ _ _ _ (64 * at) (64 * (at + 4)) hi (frame_finds bs at 18 5 Entries row)
    (joint _ _ _ _ (64 * (at + 4)) (64 * (at + 12)) hi (ends_finds bs quays row at 20)
    (joint _ _ _ _ (64 * (at + 12)) (64 * (at + 16)) hi (rhythm_finds bs row at)
    (wider _ _ (64 * (at + 16)) (64 * (at + 20)) _ _ (omega arith) (omega arith) (counts_finds bs row at (places_to bs quays row)))
    (omega arith) (omega arith))
    (omega arith) (omega arith))
    (omega arith) (omega arith)

-- a whole image: heading, quays, entries and end
image_finds : (bs : List ℕ) (kind most wide : ℕ) (f : ℕ → Check) (W : ℕ → Fault → Type 0) → ((row : ℕ) → Finds (f row) (W row) (64 * entry_at wide (quays_in bs) row) (64 * entry_at wide (quays_in bs) (suc row)))
    → Finds (result_and (heading bs kind most) (result_and (up_to (quay bs) (quays_in bs)) (result_and (up_to f (entries_in bs)) (ending bs (entry_at wide (quays_in bs) (entries_in bs))))))
    (λ g. HeadingWrong bs kind most g ⊎ (SomeRow (quays_in bs) (QuayWrong bs) g ⊎ (SomeRow (entries_in bs) W g ⊎ Is (fault BytesFollow End 0 (entry_at wide (quays_in bs) (entries_in bs))) (Not (length bs ≡ entry_at wide (quays_in bs) (entries_in bs))) g)))
    0 (64 * (entry_at wide (quays_in bs) (entries_in bs) + 1))
image_finds bs kind most wide f W h =
    let n = quays_in bs in
    let m = entries_in bs in
    let end = entry_at wide n m in
    let hi = 64 * (end + 1) in
    let quays = rows (quay bs) (QuayWrong bs) (λ i. 64 * quay_start i) (λ i. omega arith) (quay_finds bs) n in
    let entries = rows f W (λ i. 64 * entry_at wide n i) (λ i. omega (arith, mul-suc wide i)) h m in
    let start : entry_at wide n 0 ≡ quay_start n = omega (arith, mul-zero wide) in
    let later : quay_start n ≤ end = omega (arith, entries.0, start) in
    joint _ _ _ _ 0 (64 * quay_start 0) hi (heading_finds bs kind most)
    (joint _ _ _ _ (64 * quay_start 0) (64 * quay_start n) hi quays.1
    (joint _ _ _ _ (64 * quay_start n) (64 * end) hi (wider _ _ (64 * entry_at wide n 0) (64 * end) _ _ (omega arith) (omega arith) entries.1)
    (field (eqb (length bs) end) BytesFollow End 0 end (Not (length bs ≡ end)) (λ a b. b (grind (arith, nat_tests, a))) (λ a b. grind (arith, nat_tests, a, b)) (end + 1) (omega arith))
    (omega arith) (omega arith))
    (omega (arith, quays.0)) (omega arith))
    (omega arith) (omega arith)

printed_finds : (bs : List ℕ) → Finds (printed_check bs) (PrintedWrong bs) 0 (64 * (entry_at 16 (quays_in bs) (entries_in bs) + 1))
printed_finds bs = image_finds bs 1 3072 16 (sailing bs (quays_in bs)) (SailingWrong bs (quays_in bs)) (sailing_finds bs (quays_in bs))

clock_finds : (bs : List ℕ) → Finds (clock_check bs) (ClockWrong bs) 0 (64 * (entry_at 20 (quays_in bs) (entries_in bs) + 1))
clock_finds bs = image_finds bs 2 512 20 (series bs (quays_in bs)) (SeriesWrong bs (quays_in bs)) (series_finds bs (quays_in bs))

pub printed_first : (bs : List ℕ) (e : Fault) → Told (printed_check bs) (PrintedWrong bs) e
printed_first bs e = (first_from _ _ _ _ (printed_finds bs) e, error_from _ _ _ _ (printed_finds bs) e)

pub clock_first : (bs : List ℕ) (e : Fault) → Told (clock_check bs) (ClockWrong bs) e
clock_first bs e = (first_from _ _ _ _ (clock_finds bs) e, error_from _ _ _ _ (clock_finds bs) e)
