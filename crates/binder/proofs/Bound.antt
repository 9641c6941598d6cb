-- What was bound is the image of just these quays and sailings. Assumes nothing.
use Rattle.std.proofs.Common.{◌≡◌, ℕ, true, cond, leb, List, map, length, take, drop, is_ok, Ok, Err, refl, ap, ◌∙◌, ⊎_elim, arith}
use lib.Seq.{take-append_seam}
use Rattle.std.proofs.lemmas.Bool.{cases_Bool, le-leb}
use Rattle.timetable.specs.declared.sailing.Sailing.{Sailing}
use Rattle.image.specs.declared.fault.Fault.{Fault}
use Rattle.image.specs.declared.quay.Quay.{Quay}
use Rattle.image.specs.Checks.{Check, printed_check}
use Rattle.image.specs.Layout.{sailing_bytes}
use Rattle.image.proofs.Contained.{Small, printed_content, content_quays, content_sailings}
use Rattle.image.proofs.Exact.{ok_is}
use Rattle.image.proofs.Finds.{printed_first}
use Rattle.image.proofs.Good.{printed_good, printed-right}
use Rattle.image.proofs.Held.{changes_same, names_same, sailings_same}
use Rattle.image.proofs.Laid.{printed_laid, printed-held}
use Rattle.binder.specs.declared.unbound.Unbound.TheVariants.{Faulty, ShortImage}
use Rattle.binder.specs.Binding.{book_bytes, answer, bound, over, Holds, Faults, Accepts}

holds_from : (quays : List Quay) (xs : List Sailing) (bs : List ℕ) → Small bs → bs ≡ book_bytes quays xs → is_ok (printed_check bs) ≡ true → Holds bs quays xs
holds_from quays xs bs small e ok =
    let l = printed_laid quays xs bs e in
    let good = printed_good bs (ok_is (printed_check bs) ok) in
    record {
      content = printed_content bs small good;
      same_changes = ap (map (λ q. q.change)) (content_quays bs small good) ∙ changes_same sailing_bytes 1 16 quays xs bs l;
      same_names = ap (map (λ q. q.name)) (content_quays bs small good) ∙ names_same sailing_bytes 1 16 quays xs bs l;
      same_sailings = content_sailings bs small good ∙ sailings_same quays xs bs e;
    }

-- the answer is a length only where the check passes and there is room
answered : (r : Check) (len room n : ℕ) → answer r len room ≡ Ok n → (is_ok r ≡ true) × (n ≡ len)
answered (Ok x) len room n h = (refl, ⊎_elim (λ y. let w = rw y at h in cc) (λ m. let w = rw m at h in let z : ◌≡◌ {A = ℕ} 0 1 = cc in absurd (omega arith)) (cases_Bool (leb len room)))
answered (Err e) len room n h = let z : ◌≡◌ {A = ℕ} 0 1 = cc in absurd (omega arith)

pub held : (quays : List Quay) (xs : List Sailing) (buffer after : List ℕ) (room n : ℕ) → bound quays xs room ≡ Ok n → after ≡ over (book_bytes quays xs) buffer → Small (take n after) → Holds (take n after) quays xs
held quays xs buffer after room n h w small =
    let bytes = book_bytes quays xs in
    let a = answered (printed_check bytes) (length bytes) room n h in
    let t : take n after ≡ bytes = ap (take n) w ∙ ap (λ k. take k (over bytes buffer)) a.1 ∙ take-append_seam bytes (drop (length bytes) buffer) in
    holds_from quays xs (take n after) small t (ap (λ b. is_ok (printed_check b)) t ∙ a.0)

-- the binder tells a fault exactly where it comes first in the image
faulty : (r : Check) (len room : ℕ) (e : Fault) → answer r len room ≡ Err (Faulty e) → r ≡ Err e
faulty (Ok x) len room e h = ⊎_elim (λ y. let w = rw y at h in let z : ◌≡◌ {A = ℕ} 0 1 = cc in absurd (omega arith)) (λ m. let w = rw m at h in let z : ◌≡◌ {A = ℕ} 0 1 = cc in absurd (omega arith)) (cases_Bool (leb len room))
faulty (Err f) len room e h = cc

pub first_bound : (quays : List Quay) (xs : List Sailing) (room : ℕ) (e : Fault) → Faults (bound quays xs room) quays xs e
first_bound quays xs room e =
    let bytes = book_bytes quays xs in
    let t = printed_first bytes e in
    (λ h. t.0 (faulty (printed_check bytes) (length bytes) room e h), λ f. ap (λ r. answer r (length bytes) room) (t.1 f))

pub accepts : (quays : List Quay) (xs : List Sailing) (room : ℕ) → Accepts (bound quays xs room) quays xs room
accepts quays xs room kept l =
    let bytes = book_bytes quays xs in
    let ok = printed-right bytes (printed-held bytes (record { quays = quays; sailings = xs; kept = kept; laid = refl })) in
    ap (λ r. answer r (length bytes) room) ok ∙ ap (λ b. cond b (Ok (length bytes)) (Err ShortImage)) (le-leb (length bytes) room l)
