-- The labels change one by one. Assumes nothing.
use Rattle.std.proofs.Common.{◌≡◌, ℕ, zero, suc, ◌+◌, ◌<◌, ◌≤◌, Bool, true, false, cond, ltb, ◌⊎◌, List, [], ◌∷◌, length, set, Some, None, Option, sym, refl, ap, ◌∙◌, subst, inl, inr, ⊎_elim, arith}
use Rattle.std.proofs.lemmas.List.{get_or-set_same, get_or-set_other, set-get_or, length-set}
use Rattle.std.proofs.lemmas.Bool.{cases_eq, ltb-true, ltb-false}
use Rattle.timetable.specs.declared.sailing.Sailing.{Sailing}
use Rattle.timetable.specs.Timetables.{Timetable, place_at}
use Rattle.journey.specs.Journeys.{Stand, start, after}
use Rattle.routing.specs.declared.ride.Ride.{Ride}
use Rattle.routing.specs.declared.trip.Trip.{Trip}
use Rattle.routing.specs.declared.label.Label.{Label}
use Rattle.routing.specs.declared.label.Label.TheVariants.{Unseen, Waiting, Settled}
use Rattle.routing.specs.Labels.{look, ride_of, reach, one, settled}
use Rattle.routing.specs.Invariants.{LeavesBy, From, Made, Inv, Covers, Closed, Betters, Better}
use Rattle.routing.proofs.Best.{same_sailing}

-- what is settled stays so
abbrev pub Keeps : List Label → List Label → Type 0
Keeps ls ms = (k : ℕ) (prior : Ride) → look ls k ≡ Settled prior → look ms k ≡ Settled prior

pub from_keeps : (T : Timetable) (q : Trip) (ls ms : List Label) (s : Sailing) (ride : Ride) (via : Option ℕ) → Keeps ls ms → From T q ls s ride via → From T q ms s ride via
from_keeps T q ls ms s ride None keeps f = f
from_keeps T q ls ms s ride (Some k) keeps (prior, r, e, a, b, c, d) = (prior, r, keeps k prior e, a, b, c, d)

pub made_keeps : (T : Timetable) (q : Trip) (ls ms : List Label) (p : ℕ) (ride : Ride) → Keeps ls ms → Made T q ls p ride → Made T q ms p ride
made_keeps T q ls ms p ride keeps m = record {
  stands = m.stands;
  arrives = m.arrives;
  bound = m.bound;
  from = from_keeps T q ls ms ride.sailing ride ride.via keeps m.from;
}

-- better labels keep what is settled
pub better_keeps : (ls ms : List Label) → Better ls ms → Keeps ls ms
better_keeps ls ms b k prior e = let P : Label → Type 0 = λ l. Betters l (look ms k) in subst P e (b k)

pub betters_refl : (l : Label) → Betters l l
betters_refl Unseen = λ ride e. let z : ◌≡◌ {A = ℕ} 0 1 = cc in omega arith
betters_refl (Waiting ride) = (ride, refl, omega arith)
betters_refl (Settled ride) = refl

pub better_refl : (ls : List Label) → Better ls ls
better_refl ls p = betters_refl (look ls p)

pub leaves_betters : (l m : Label) (n : ℕ) → Betters l m → LeavesBy l n → LeavesBy m n
leaves_betters Unseen m n b w = absurd w
leaves_betters (Waiting ride) m n (new, e, h) w = let P : Label → Type 0 = λ l. LeavesBy l n in subst P (sym e) (omega arith)
leaves_betters (Settled ride) m n e w = let P : Label → Type 0 = λ l. LeavesBy l n in subst P (sym e) w

pub covers_better : (T : Timetable) (ls ms : List Label) (here : Stand) (a b : ℕ) → Better ls ms → Covers T ls here a b → Covers T ms here a b
covers_better T ls ms here a b better covers p s lo hi e f = leaves_betters (look ls p) (look ms p) _ (better p) (covers p s lo hi e f)

betters_trans : (l m n : Label) → Betters l m → Betters m n → Betters l n
betters_trans Unseen Unseen n b c = c
betters_trans Unseen (Waiting ride) n b (new, e, h) = λ prior f. let z : ◌≡◌ {A = ℕ} 0 1 = cc in omega arith
betters_trans Unseen (Settled ride) n b c = absurd (b ride refl)
betters_trans (Waiting ride) m n (new, e, h) c =
    let P : Label → Type 0 = λ l. Betters l n in
    let (new₂, e₂, h₂) = subst P e c in
    (new₂, e₂, omega arith)
betters_trans (Settled ride) m n b c = let P : Label → Type 0 = λ l. Betters l n in subst P b c

pub better_trans : (ls ms ns : List Label) → Better ls ms → Better ms ns → Better ls ns
better_trans ls ms ns b c p = betters_trans (look ls p) (look ms p) (look ns p) (b p) (c p)

-- one label is changed
module _ (T : Timetable) (q : Trip) (ls : List Label) (p : ℕ) (l : Label) (p< : p < length ls) where
  here : look (set ls p l) p ≡ l
  here = get_or-set_same ls p l Unseen p<

  elsewhere : (k : ℕ) → (k ≡ p → ⊥) → look (set ls p l) k ≡ look ls k
  elsewhere k ne = get_or-set_other ls p k l Unseen ne

  at_each : (P : ℕ → Label → Type 0) → P p l → ((k : ℕ) → (k ≡ p → ⊥) → P k (look ls k)) → (k : ℕ) → P k (look (set ls p l) k)
  at_each P this others k = ⊎_elim
      (λ e. let Q : ℕ → Type 0 = λ j. P j (look (set ls p l) j) in let R : Label → Type 0 = P p in subst Q (sym e) (subst R (sym here) this))
      (λ ne. let R : Label → Type 0 = P k in subst R (sym (elsewhere k ne)) (others k ne))
      (cases_eq k p)

  pub inv_set : (f c f' c' : ℕ) → Inv T q ls f c → Keeps ls (set ls p l) → f ≤ f' → c ≤ c'
      → ((ride : Ride) → ride_of l ≡ Some ride → Made T q ls p ride)
      → ((ride : Ride) → l ≡ Settled ride → (ride.arrives ≤ f') × (ride.depth ≤ c'))
      → ((ride : Ride) → l ≡ Waiting ride → (f' ≤ ride.arrives) × (ride.depth ≤ c' + 1))
      → ((k : ℕ) (ride : Ride) → (k ≡ p → ⊥) → look ls k ≡ Waiting ride → f' ≤ ride.arrives)
      → Inv T q (set ls p l) f' c'
  inv_set f c f' c' inv keeps hf hc made low high others = record {
    made = at_each (λ k x. (ride : Ride) → ride_of x ≡ Some ride → Made T q (set ls p l) k ride)
        (λ ride e. made_keeps T q ls (set ls p l) p ride keeps (made ride e))
        (λ k ne ride e. made_keeps T q ls (set ls p l) k ride keeps (inv.made k ride e));
    low = at_each (λ k x. (ride : Ride) → x ≡ Settled ride → (ride.arrives ≤ f') × (ride.depth ≤ c')) low
        (λ k ne ride e. let h = inv.low k ride e in (omega arith, omega arith));
    high = at_each (λ k x. (ride : Ride) → x ≡ Waiting ride → (f' ≤ ride.arrives) × (ride.depth ≤ c' + 1)) high
        (λ k ne ride e. let h = inv.high k ride e in (others k ride ne e, omega arith));
  }

differ_sw : (a b : Ride) → Waiting a ≡ Settled b → ⊥
differ_sw a b e = let z : ◌≡◌ {A = ℕ} 0 1 = cc in omega arith

differ_us : (b : Ride) → Unseen ≡ Settled b → ⊥
differ_us b e = let z : ◌≡◌ {A = ℕ} 0 1 = cc in omega arith

same_waiting : (a b : Ride) → Waiting a ≡ Waiting b → a ≡ b
same_waiting a b e = cc

same_settled : (a b : Ride) → Settled a ≡ Settled b → a ≡ b
same_settled a b e = cc

same_some : (a b : Ride) → ◌≡◌ {A = Option Ride} (Some a) (Some b) → a ≡ b
same_some a b e = cc

pub settled_back : (l m : Label) (prior : Ride) → Betters l m → m ≡ Settled prior → l ≡ Settled prior
settled_back Unseen m prior b e = absurd (b prior e)
settled_back (Waiting ride) m prior (new, g, h) e = absurd (differ_sw new prior (sym g ∙ e))
settled_back (Settled ride) m prior b e = sym b ∙ e

-- what is not settled may be changed
pub keeps-set : (ls : List Label) (p : ℕ) (l : Label) → ((prior : Ride) → look ls p ≡ Settled prior → ⊥) → Keeps ls (set ls p l)
keeps-set ls p l open' k prior e = ⊎_elim
    (λ same. absurd (open' prior (ap (look ls) (sym same) ∙ e)))
    (λ ne. get_or-set_other ls p k l Unseen ne ∙ e)
    (cases_eq k p)

-- a place is reached, as `new` says
module _ (T : Timetable) (q : Trip) (ls : List Label) (p f c : ℕ) (new : Ride) (p< : p < length ls) (inv : Inv T q ls f c)
    (made : Made T q ls p new) (later : f ≤ new.leaves) (depth : new.depth ≤ c + 1) where
  abbrev Result : Label → Type 0
  Result l = Inv T q (set ls p l) f c × Betters (look ls p) l × LeavesBy l new.leaves

  late : new.leaves ≤ new.arrives
  late = omega (arith, made.arrives)

  put_new : ((prior : Ride) → look ls p ≡ Settled prior → ⊥) → Betters (look ls p) (Waiting new) → Result (Waiting new)
  put_new open' b = (
    inv_set T q ls p (Waiting new) p< f c f c inv (keeps-set ls p (Waiting new) open') (omega arith) (omega arith)
        (λ ride e. let P : Ride → Type 0 = λ x. Made T q ls p x in subst P (same_some new ride e) made)
        (λ ride e. absurd (differ_sw new ride e))
        (λ ride e. let P : Ride → Type 0 = λ x. (f ≤ x.arrives) × (x.depth ≤ c + 1) in subst P (same_waiting new ride e) (omega (arith, late), depth))
        (λ k ride ne e. (inv.high k ride e).0),
    b,
    omega arith,
  )

  keep_old : (x : Label) → look ls p ≡ x → LeavesBy x new.leaves → Result x
  keep_old x e w =
      let back : ls ≡ set ls p x = sym (set-get_or ls p Unseen) ∙ ap (λ y. set ls p y) e in
      (subst (λ ms. Inv T q ms f c) back inv, subst (Betters (look ls p)) e (betters_refl (look ls p)), w)

  reached_at : (x : Label) → look ls p ≡ x → Result (reach x new)
  reached_at Unseen e = put_new (λ prior g. differ_us prior (sym e ∙ g)) (subst (λ x. Betters x (Waiting new)) (sym e) (λ prior g. differ_sw new prior g))
  reached_at (Waiting ride) e = by_test (ltb new.leaves ride.leaves) refl
    where
      by_test : (t : Bool) → ltb new.leaves ride.leaves ≡ t → Result (cond t (Waiting new) (Waiting ride))
      by_test true t = put_new (λ prior g. differ_sw ride prior (sym e ∙ g)) (subst (λ x. Betters x (Waiting new)) (sym e) (new, refl, omega (arith, ltb-true _ _ t)))
      by_test false t = keep_old (Waiting ride) e (omega (arith, ltb-false _ _ t))
  reached_at (Settled ride) e =
      let low = inv.low p ride e in
      let m = inv.made p ride (ap ride_of e) in
      keep_old (Settled ride) e (omega (arith, m.arrives))

  pub reached : Result (reach (look ls p) new)
  reached = reached_at (look ls p) refl

  pub reached_better : Better ls (set ls p (reach (look ls p) new))
  reached_better = at_each T q ls p (reach (look ls p) new) p< (λ k x. Betters (look ls k) x) reached.1 (λ k ne. betters_refl (look ls k))

  pub reached_by : LeavesBy (look (set ls p (reach (look ls p) new)) p) new.leaves
  reached_by = subst (λ x. LeavesBy x new.leaves) (sym (get_or-set_same ls p (reach (look ls p) new) Unseen p<)) reached.2

-- the first of the waiting places is settled
module _ (T : Timetable) (q : Trip) (ls : List Label) (p f c : ℕ) (ride : Ride) (p< : p < length ls) (inv : Inv T q ls f c)
    (waits : look ls p ≡ Waiting ride) (first : (k : ℕ) (ks : Ride) → look ls k ≡ Waiting ks → ride.arrives ≤ ks.arrives) where
  pub settle_keeps : Keeps ls (set ls p (Settled ride))
  settle_keeps = keeps-set ls p (Settled ride) (λ prior g. differ_sw ride prior (sym waits ∙ g))

  pub settle_inv : Inv T q (set ls p (Settled ride)) ride.arrives (c + 1)
  settle_inv =
      let h = inv.high p ride waits in
      inv_set T q ls p (Settled ride) p< f c ride.arrives (c + 1) inv settle_keeps h.0 (omega arith)
      (λ s₂ e. let P : Ride → Type 0 = λ x. Made T q ls p x in subst P (same_some ride s₂ e) (inv.made p ride (ap ride_of waits)))
      (λ s₂ e. let P : Ride → Type 0 = λ x. (x.arrives ≤ ride.arrives) × (x.depth ≤ c + 1) in subst P (same_settled ride s₂ e) (omega arith, h.1))
      (λ s₂ e. absurd (differ_sw s₂ ride (sym e)))
      (λ k ks ne e. first k ks e)

  pub settle_leaves : (k n : ℕ) → LeavesBy (look ls k) n → LeavesBy (look (set ls p (Settled ride)) k) n
  settle_leaves k n = at_each T q ls p (Settled ride) p< (λ j x. LeavesBy (look ls j) n → LeavesBy x n) (λ w. let P : Label → Type 0 = λ x. LeavesBy x n in subst P waits w) (λ j ne w. w) k

  settled_cases : (ms : List Label) → Better (set ls p (Settled ride)) ms → (k : ℕ) (prior : Ride) → look ms k ≡ Settled prior → ((k ≡ p) × (prior ≡ ride)) ⊎ (look ls k ≡ Settled prior)
  settled_cases ms better k prior e =
      let back = settled_back (look (set ls p (Settled ride)) k) (look ms k) prior (better k) e in
      ⊎_elim (λ same. inl (same, same_settled prior ride (sym back ∙ ap (look (set ls p (Settled ride))) same ∙ get_or-set_same ls p (Settled ride) Unseen p<)))
      (λ ne. inr (sym (get_or-set_other ls p k (Settled ride) Unseen ne) ∙ back))
      (cases_eq k p)

  -- and then each place that can be reached from there was reached
  pub settle_closed : (r : Sailing) (ms : List Label) → Closed T q ls → place_at T p ≡ Some r → (r.to ≡ q.to → ⊥) → Better (set ls p (Settled ride)) ms
      → Covers T ms (after T q.extra r ride.arrives) 0 (length T.places) → Closed T q ms
  settle_closed r ms closed stands away better covers = record {
    begun = covers_better T (set ls p (Settled ride)) ms (start q.from q.minute) _ _ better (λ k s lo hi e g. settle_leaves k _ (closed.begun k s lo hi e g));
    covered = λ k prior r₂ e g. ⊎_elim
        (λ (same, st-is).
        let sailing : r ≡ r₂ = same_sailing T p r r₂ stands (ap (place_at T) (sym same) ∙ g) in
        let C : Sailing → Ride → Type 0 = λ x y. Covers T ms (after T q.extra x y.arrives) 0 (length T.places) in
        subst (λ y. C r₂ y) (sym st-is) (subst (λ x. C x ride) sailing covers))
        (λ old. covers_better T (set ls p (Settled ride)) ms (after T q.extra r₂ prior.arrives) _ _ better (λ j s lo hi e₂ g₂. settle_leaves j _ (closed.covered k prior r₂ old g j s lo hi e₂ g₂)))
        (settled_cases ms better k prior e);
    away = λ k prior r₂ e g to. ⊎_elim
        (λ (same, st-is). away (ap (λ x. x.to) (same_sailing T p r r₂ stands (ap (place_at T) (sym same) ∙ g)) ∙ to))
        (λ old. closed.away k prior r₂ old g to)
        (settled_cases ms better k prior e);
  }

-- how many are settled
pub settled_le : (ls : List Label) → settled ls ≤ length ls
settled_le [] = omega arith
settled_le (Unseen ∷ ls) = omega (arith, settled_le ls)
settled_le (Waiting ride ∷ ls) = omega (arith, settled_le ls)
settled_le (Settled ride ∷ ls) = omega (arith, settled_le ls)

pub settled-set : (ls : List Label) (p : ℕ) (l : Label) → p < length ls → settled (set ls p l) + one (look ls p) ≡ settled ls + one l
settled-set [] p l h = absurd (omega arith)
settled-set (x ∷ ls) zero l h = omega arith
settled-set (x ∷ ls) (suc p) l h = omega (arith, settled-set ls p l (omega arith))

-- a settled place more
pub settled_more : (ls : List Label) (p : ℕ) (ride : Ride) → p < length ls → look ls p ≡ Waiting ride → (settled (set ls p (Settled ride)) ≡ settled ls + 1) × (settled ls < length ls)
settled_more ls p ride h e =
    let a = settled-set ls p (Settled ride) h in
    let b : one (look ls p) ≡ 0 = ap one e in
    let c = settled_le (set ls p (Settled ride)) in
    let d = length-set ls p (Settled ride) in
    (omega arith, omega arith)

-- what is reached is not settled
pub one_betters : (l m : Label) → Betters l m → one m ≡ one l
one_betters Unseen Unseen b = refl
one_betters Unseen (Waiting ride) b = refl
one_betters Unseen (Settled ride) b = absurd (b ride refl)
one_betters (Waiting ride) m (new, e, h) = ap one e
one_betters (Settled ride) m e = ap one e

pub settled-reach : (ls : List Label) (p : ℕ) (l : Label) → p < length ls → Betters (look ls p) l → settled (set ls p l) ≡ settled ls
settled-reach ls p l h b = omega (arith, settled-set ls p l h, one_betters (look ls p) l b)
