-- What adding, replacing and taking an entry do to the keys that those that wait tell. Assumes nothing.
use Rattle.std.proofs.Common.{◌≡◌, ℕ, zero, suc, ◌+◌, ◌<◌, ◌≤◌, true, false, cond, eqb, List, [], ◌∷◌, length, get_or, set, refl, ap, ◌∙◌, subst, ⊎_elim, arith, eq-eqb, eqb-true}
use Rattle.std.proofs.lemmas.List.Sums.{sum_by-cons, sum_by-set, get_or-le-sum_by}
use Rattle.std.proofs.lemmas.List.Sorted.{sum_by-IsPermutation}
use Rattle.std.proofs.lemmas.Bool.{cases_Bool}
use Rattle.std.specs.List.Sorted.{IsPermutation}
use Rattle.heapline.specs.declared.entry.Waiting.{Waiting}
use Rattle.heapline.specs.Tallies.{key_of, times_of}

pub key : ℕ → Waiting → ℕ
key i w = cond (eqb w.item i) (w.key + 1) 0

pub once : ℕ → Waiting → ℕ
once i w = cond (eqb w.item i) 1 0

-- what an entry adds, where it is of the item and where it is not
pub key_yes : (i : ℕ) (w : Waiting) → eqb w.item i ≡ true → key i w ≡ w.key + 1
unfolding key
key_yes i w e = ap (λ b. cond b (w.key + 1) 0) e

pub key_no : (i : ℕ) (w : Waiting) → eqb w.item i ≡ false → key i w ≡ 0
unfolding key
key_no i w e = ap (λ b. cond b (w.key + 1) 0) e

pub once_yes : (i : ℕ) (w : Waiting) → eqb w.item i ≡ true → once i w ≡ 1
unfolding once
once_yes i w e = ap (λ b. cond b 1 0) e

pub once_no : (i : ℕ) (w : Waiting) → eqb w.item i ≡ false → once i w ≡ 0
unfolding once
once_no i w e = ap (λ b. cond b 1 0) e

pub key_cons : (i : ℕ) (w : Waiting) (ws : List Waiting) → key_of (w ∷ ws) i ≡ key i w + key_of ws i
unfolding key
key_cons i w ws = sum_by-cons (λ w. cond (eqb w.item i) (w.key + 1) 0) w ws

pub once_cons : (i : ℕ) (w : Waiting) (ws : List Waiting) → times_of (w ∷ ws) i ≡ once i w + times_of ws i
unfolding once
once_cons i w ws = sum_by-cons (λ w. cond (eqb w.item i) 1 0) w ws

pub once_le : (i j : ℕ) (ws : List Waiting) (d : Waiting) → j < length ws → once i (get_or ws j d) ≤ times_of ws i
unfolding once
once_le i j ws d l = get_or-le-sum_by (λ w. cond (eqb w.item i) 1 0) ws j d l

pub absent : (i : ℕ) (ws : List Waiting) → times_of ws i ≡ 0 → key_of ws i ≡ 0
absent i [] h = refl
absent i (w ∷ ws) h =
    let t = once_cons i w ws in
    let k = key_cons i w ws in
    ⊎_elim (λ e. let o = once_yes i w e in absurd (omega arith)) (λ e. let o = once_no i w e in let n = key_no i w e in let r = absent i ws (omega arith) in omega arith) (cases_Bool (eqb w.item i))

-- the one entry of an item gives its key
pub present : (i j : ℕ) (ws : List Waiting) (d : Waiting) → times_of ws i ≤ 1 → j < length ws → eqb (get_or ws j d).item i ≡ true → key_of ws i ≡ key i (get_or ws j d)
present i j [] d h l e = absurd (omega arith)
present i zero (w ∷ ws) d h l e =
    let t = once_cons i w ws in
    let k = key_cons i w ws in
    let o = once_yes i w e in
    let a = absent i ws (omega arith) in omega arith
present i (suc j) (w ∷ ws) d h l e =
    let t = once_cons i w ws in
    let k = key_cons i w ws in
    let o = once_yes i (get_or ws j d) e in
    let b = once_le i j ws d (omega arith) in
    ⊎_elim (λ y. let z = once_yes i w y in absurd (omega arith)) (λ y. let z = once_no i w y in let n = key_no i w y in let r = present i j ws d (omega arith) (omega arith) e in omega arith) (cases_Bool (eqb w.item i))

pub added_once : (xs ys : List Waiting) (w : Waiting) → IsPermutation (w ∷ xs) ys → times_of xs w.item ≡ 0 → ((i : ℕ) → times_of xs i ≤ 1) → (i : ℕ) → times_of ys i ≤ 1
added_once xs ys w h z u i =
    let s = sum_by-IsPermutation (λ w. cond (eqb w.item i) 1 0) (w ∷ xs) ys h in
    let t = once_cons i w xs in
    ⊎_elim (λ e. let o = once_yes i w e in let n = subst (λ j. times_of xs j ≡ 0) (eqb-true w.item i e) z in omega arith)
    (λ e. let o = once_no i w e in let b = u i in omega arith) (cases_Bool (eqb w.item i))

pub added_key : (xs ys : List Waiting) (w : Waiting) → IsPermutation (w ∷ xs) ys → times_of xs w.item ≡ 0 → (i : ℕ) → key_of ys i ≡ cond (eqb w.item i) (w.key + 1) (key_of xs i)
added_key xs ys w h z i =
    let s = sum_by-IsPermutation (λ w. cond (eqb w.item i) (w.key + 1) 0) (w ∷ xs) ys h in
    let k = key_cons i w xs in
    ⊎_elim (λ e. let c = ap (λ b. cond b (w.key + 1) (key_of xs i)) e in let o = key_yes i w e in let n = absent i xs (subst (λ j. times_of xs j ≡ 0) (eqb-true w.item i e) z) in omega arith)
    (λ e. let c = ap (λ b. cond b (w.key + 1) (key_of xs i)) e in let o = key_no i w e in omega arith) (cases_Bool (eqb w.item i))

pub once_set : (i j : ℕ) (ws : List Waiting) (w d : Waiting) → j < length ws → times_of (set ws j w) i + once i (get_or ws j d) ≡ times_of ws i + once i w
unfolding once
once_set i j ws w d l = sum_by-set (λ w. cond (eqb w.item i) 1 0) ws j w d l

pub key_set : (i j : ℕ) (ws : List Waiting) (w d : Waiting) → j < length ws → key_of (set ws j w) i + key i (get_or ws j d) ≡ key_of ws i + key i w
unfolding key
key_set i j ws w d l = sum_by-set (λ w. cond (eqb w.item i) (w.key + 1) 0) ws j w d l

pub replaced_once : (xs ys : List Waiting) (j : ℕ) (w d : Waiting) → IsPermutation (set xs j w) ys → j < length xs → (get_or xs j d).item ≡ w.item → ((i : ℕ) → times_of xs i ≤ 1) → (i : ℕ) → times_of ys i ≤ 1
replaced_once xs ys j w d h l same u i =
    let s = sum_by-IsPermutation (λ w. cond (eqb w.item i) 1 0) (set xs j w) ys h in
    let t = once_set i j xs w d l in
    let b = u i in
    ⊎_elim (λ e. let o = once_yes i w e in let n = once_yes i (get_or xs j d) (ap (λ m. eqb m i) same ∙ e) in omega arith)
    (λ e. let o = once_no i w e in omega arith) (cases_Bool (eqb w.item i))

pub replaced_key : (xs ys : List Waiting) (j : ℕ) (w d : Waiting) → IsPermutation (set xs j w) ys → j < length xs → (get_or xs j d).item ≡ w.item → ((i : ℕ) → times_of xs i ≤ 1) → (i : ℕ) → key_of ys i ≡ cond (eqb w.item i) (w.key + 1) (key_of xs i)
replaced_key xs ys j w d h l same u i =
    let s = sum_by-IsPermutation (λ w. cond (eqb w.item i) (w.key + 1) 0) (set xs j w) ys h in
    let t = key_set i j xs w d l in
    ⊎_elim (λ e.
    let c = ap (λ b. cond b (w.key + 1) (key_of xs i)) e in
    let o = key_yes i w e in
    let n = present i j xs d (u i) l (ap (λ m. eqb m i) same ∙ e) in omega arith)
    (λ e. let c = ap (λ b. cond b (w.key + 1) (key_of xs i)) e in let o = key_no i w e in let n = key_no i (get_or xs j d) (ap (λ m. eqb m i) same ∙ e) in omega arith) (cases_Bool (eqb w.item i))

-- w was taken from xs, and ys is left
pub taken_once : (xs ys : List Waiting) (w : Waiting) → IsPermutation xs (w ∷ ys) → ((i : ℕ) → times_of xs i ≤ 1) → (i : ℕ) → times_of ys i ≤ 1
taken_once xs ys w h u i =
    let s = sum_by-IsPermutation (λ w. cond (eqb w.item i) 1 0) xs (w ∷ ys) h in
    let t = once_cons i w ys in
    let b = u i in omega arith

-- nothing else of its item is left
pub gone : (xs ys : List Waiting) (w : Waiting) → IsPermutation xs (w ∷ ys) → ((i : ℕ) → times_of xs i ≤ 1) → key_of ys w.item ≡ 0
gone xs ys w h u =
    let s = sum_by-IsPermutation (λ v. cond (eqb v.item w.item) 1 0) xs (w ∷ ys) h in
    let t = once_cons w.item w ys in
    let o = once_yes w.item w (eq-eqb w.item w.item refl) in
    let b = u w.item in absent w.item ys (omega arith)

pub taken_had : (xs ys : List Waiting) (w : Waiting) → IsPermutation xs (w ∷ ys) → ((i : ℕ) → times_of xs i ≤ 1) → key_of xs w.item ≡ w.key + 1
taken_had xs ys w h u =
    let s = sum_by-IsPermutation (λ v. cond (eqb v.item w.item) (v.key + 1) 0) xs (w ∷ ys) h in
    let k = key_cons w.item w ys in
    let o = key_yes w.item w (eq-eqb w.item w.item refl) in
    let g = gone xs ys w h u in omega arith

pub taken_key : (xs ys : List Waiting) (w : Waiting) → IsPermutation xs (w ∷ ys) → ((i : ℕ) → times_of xs i ≤ 1) → (i : ℕ) → key_of ys i ≡ cond (eqb w.item i) 0 (key_of xs i)
taken_key xs ys w h u i =
    let s = sum_by-IsPermutation (λ w. cond (eqb w.item i) (w.key + 1) 0) xs (w ∷ ys) h in
    let k = key_cons i w ys in
    ⊎_elim (λ e. let c = ap (λ b. cond b 0 (key_of xs i)) e in let g = subst (λ j. key_of ys j ≡ 0) (eqb-true w.item i e) (gone xs ys w h u) in omega arith)
    (λ e. let c = ap (λ b. cond b 0 (key_of xs i)) e in let o = key_no i w e in omega arith) (cases_Bool (eqb w.item i))
