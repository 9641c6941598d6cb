-- The search begins. Assumes nothing.
use Rattle.std.proofs.Common.{◌≡◌, ℕ, ◌≤◌, List, length, get_or, replicate, Some, None, Option, sym, refl, ap, ◌∙◌, subst, inl, inr, arith}
use Rattle.std.proofs.lemmas.List.{get_or_past, get_or-replicate, length-replicate}
use Rattle.std.proofs.lemmas.Bool.{cases_lt}
use Rattle.timetable.specs.declared.span.Span.{Span}
use Rattle.timetable.specs.Timetables.{Timetable}
use Rattle.routing.specs.declared.ride.Ride.{Ride}
use Rattle.routing.specs.declared.ride.Origin.TheVariants.{Start}
use Rattle.routing.specs.declared.trip.Trip.{Trip}
use Rattle.routing.specs.declared.label.Label.{Label}
use Rattle.routing.specs.declared.label.Label.TheVariants.{Unseen, Waiting, Settled}
use Rattle.routing.specs.Labels.{look, ride_of, key_of, Linked}
use Rattle.routing.specs.Invariants.{Betters, Better}
use Rattle.routing.specs.Relaxing.{Ready, Through, Opened}
use Rattle.routing.specs.Turns.{Asked, Going}

-- a row of one value reads as that value, also past its end
pub one_value : {X : Type 0} (n : ℕ) (x : X) (p : ℕ) → get_or (replicate n x) p x ≡ x
one_value n x p = elim (cases_lt p n) [ inl lt ↦ get_or-replicate n p x x lt | inr le ↦ get_or_past _ p x (omega (arith, length-replicate n x)) ]

abbrev nothing : Option ℕ
nothing = None

module _ (ls : List Label) (clean : (p : ℕ) → look ls p ≡ Unseen) where
  no_ride : (p : ℕ) (ride : Ride) → ride_of (look ls p) ≡ Some ride → ⊥
  no_ride p ride e = let c = ap ride_of (clean p) in let z : ◌≡◌ {A = ℕ} 0 1 = cc in omega arith

  no_waiting : (p : ℕ) (ride : Ride) → look ls p ≡ Waiting ride → ⊥
  no_waiting p ride e = let c = clean p in let z : ◌≡◌ {A = ℕ} 0 1 = cc in omega arith

  no_settled : (p : ℕ) (ride : Ride) → look ls p ≡ Settled ride → ⊥
  no_settled p ride e = let c = clean p in let z : ◌≡◌ {A = ℕ} 0 1 = cc in omega arith

  still_none : (ms : List Label) → Better ls ms → (p : ℕ) (ride : Ride) → look ms p ≡ Settled ride → ⊥
  still_none ms b p ride e = subst (λ l. Betters l (look ms p)) (clean p) (b p) ride e

  none_linked : (n : ℕ) → length ls ≤ n → Linked ls (replicate n None)
  none_linked n h = (omega (arith, length-replicate n nothing), λ p. one_value n nothing p ∙ sym (ap key_of (clean p)))

  module _ (T : Timetable) (q : Trip) (ls₀ : List Label) (ks₀ : List (Option ℕ)) (asked : Asked T q ls₀ ks₀) where
    pub begin : length ls ≡ length ls₀ → (ks : List (Option ℕ)) → ks ≡ replicate (length ks₀) None → Ready T q (Start q.from q.minute) ls ks
    begin size ks is = record {
      fair = asked.fair;
      sized = size ∙ asked.sized;
      linked = subst (Linked ls) (sym is) (none_linked (length ks₀) (omega (arith, asked.room)));
      inv = record { made = λ p ride e. absurd (no_ride p ride e); low = λ p ride e. absurd (no_settled p ride e); high = λ p ride e. absurd (no_waiting p ride e) };
      rooted = (refl, refl);
    }

    pub begun : (ms : List Label) (ks : List (Option ℕ)) (ps : List (Option Span)) → 256 ≤ length ps → Opened T q ms ps q.minute → Through T q (Start q.from q.minute) ls ms ks 0 (length T.places) → Going T q ms ks ps
    begun ms ks ps many opened t = record {
      many = omega (arith, asked.fair.lawful.few_quays);
      opened = opened;
      floor = q.minute;
      fair = asked.fair;
      apart = asked.apart;
      sized = t.ready.sized;
      linked = t.ready.linked;
      inv = t.ready.inv;
      closed = record {
        begun = t.covers;
        covered = λ k prior r e. absurd (still_none ms t.better k prior e);
        away = λ k prior r e. absurd (still_none ms t.better k prior e);
      };
    }

pub none_open : (T : Timetable) (q : Trip) (ls : List Label) (ps : List (Option Span)) (m : ℕ) → ((v : ℕ) → get_or ps v None ≡ None) → Opened T q ls ps m
none_open T q ls ps m none v span e = let n = none v in let z : ◌≡◌ {A = ℕ} 0 1 = cc in absurd (omega arith)

pub blank : (ls : List Label) (n : ℕ) → ls ≡ replicate n Unseen → (p : ℕ) → look ls p ≡ Unseen
blank ls n is p = ap (λ xs. look xs p) is ∙ one_value n Unseen p
