-- A number is read exactly where it stands. Assumes nothing.
use Rattle.std.proofs.Common.{◌≡◌, ℕ, ◌+◌, ◌-◌, ◌<◌, ◌≤◌, Bool, true, false, cond, ◌&&◌, ◌||◌, eqb, ltb, leb, List, length, get_or, take, drop, IfSome, Some, None, Option, sym, refl, ap, ◌∙◌, subst, arith, length-drop, get_or-drop}
use Rattle.std.proofs.lemmas.List.Sums.{prefix_len-le-length, prefix_len_passes, prefix_len_stops, prefix_len_is}
use Rattle.std.proofs.lemmas.Bool.{and_parts, and_from, or_parts, or_from, ltb-true, ltb-false, leb-true, eqb-true, eqb-false, lt-ltb, le-ltb, le-leb, eq-eqb, ne_eqb, cond-true, cond-false}
use Rattle.numerals.specs.declared.field.Field.{Field}
use Rattle.numerals.specs.Digits.{is_digit, Digit, digit_run, decimal}
use Rattle.numerals.specs.Numbers.{numeral_of, numeral_from, numeral_at, Stands, number_at, Numeral, wide_at, WideNumeral}

-- an answer that is there came of the way that gives one
pub opened : {X : Type 0} (b : Bool) (o : Option X) (x : X) → cond b o None ≡ Some x → (b ≡ true) × (o ≡ Some x)
opened true o x h = (refl, h)
opened false o x h = let z : ◌≡◌ {A = ℕ} 0 1 = cc in absurd (omega arith)

pub passed : {X : Type 0} (b : Bool) (o : Option X) (x : X) → cond b None o ≡ Some x → (b ≡ false) × (o ≡ Some x)
passed true o x h = let z : ◌≡◌ {A = ℕ} 0 1 = cc in absurd (omega arith)
passed false o x h = (refl, h)

pub same_field : {T : Type 0} (v : T) (n : ℕ) (f : Field T) → v ≡ f.value → n ≡ f.next → Some (record { value = v; next = n }) ≡ Some f
same_field v n f p q = λ i. Some (record { value = p i; next = q i })

pub digit_true : (b : ℕ) → is_digit b ≡ true → Digit b
digit_true b h = let e = and_parts (leb 48 b) (leb b 57) h in (leb-true 48 b e.0, leb-true b 57 e.1)

pub true_digit : (b : ℕ) → Digit b → is_digit b ≡ true
true_digit b h = and_from (leb 48 b) (leb b 57) (le-leb 48 b h.0) (le-leb b 57 h.1)

pub digit_false : (b : ℕ) → is_digit b ≡ false → Digit b → ⊥
digit_false b h d = let e = true_digit b d in let z : false ≡ true = sym h ∙ e in absurd (let y : ◌≡◌ {A = ℕ} 0 1 = cc in omega arith)

pub false_digit : (b : ℕ) → (Digit b → ⊥) → is_digit b ≡ false
false_digit b h = go (is_digit b) (λ e. h (digit_true b e))
  where
    go : (t : Bool) → (t ≡ true → ⊥) → t ≡ false
    go true f = absurd (f refl)
    go false f = refl

-- what stands at a place of the line stands so much before in the rest
pub in_rest : (line : List ℕ) (from i : ℕ) → from ≤ i → get_or (drop from line) (i - from) 0 ≡ get_or line i 0
in_rest line from i h = get_or-drop from line (i - from) 0 ∙ ap (λ k. get_or line k 0) (omega arith)

-- a type of numbers: the value for a number, the number that a value stands for, and that each undoes the other
pub record Kind (T : Type 0) : Type 0 where
  pub of : ℕ → T
  pub worth_of : T → ℕ
  pub told : (n : ℕ) → worth_of (of n) ≡ n
  pub back : (x : T) → of (worth_of x) ≡ x

pub numeral_tells : {T : Type 0} (k : Kind T) (most_digits most : ℕ) (line : List ℕ) (at : ℕ) (f : Field T) → numeral_at k.of most_digits most line at ≡ Some f → Stands k.worth_of most_digits most line at f
numeral_tells k most_digits most line at f h =
    let bs = drop (at + 1) line in
    let n = digit_run bs in
    let a = opened (ltb at (length line) && eqb (get_or line at 0) 32) (numeral_from k.of most_digits most bs (at + 1)) f h in
    let b = passed (eqb n 0 || ltb most_digits n) _ f a.1 in
    let c = passed (ltb most (decimal (take n bs))) _ f b.1 in
    let starts = and_parts (ltb at (length line)) (eqb (get_or line at 0) 32) a.0 in
    let counts = or_parts (eqb n 0) (ltb most_digits n) b.0 in
    let value : f.value ≡ k.of (decimal (take n bs)) = let e = c.1 in cc in
    let number : k.worth_of f.value ≡ decimal (take n bs) = ap k.worth_of value ∙ k.told (decimal (take n bs)) in
    let next : f.next ≡ at + 1 + n = let e = c.1 in cc in
    let some : 1 ≤ n = let e = eqb-false n 0 counts.0 in omega arith in
    let few : n ≤ most_digits = ltb-false most_digits n counts.1 in
    let long : n ≤ length line - (at + 1) = omega (arith, prefix_len-le-length is_digit bs, length-drop (at + 1) line) in
    let inside : at < length line = ltb-true at (length line) starts.0 in
    record {
      space = eqb-true (get_or line at 0) 32 starts.1;
      some_digit = omega arith;
      few_digits = omega arith;
      inside = omega arith;
      digits = λ i l u. digit_true (get_or line i 0) (ap is_digit (sym (in_rest line (at + 1) i l)) ∙ prefix_len_passes is_digit bs (i - (at + 1)) 0 (omega arith));
      no_further = λ u.
          digit_false (get_or line f.next 0)
          (ap is_digit (sym (in_rest line (at + 1) f.next (omega arith)) ∙ ap (λ i. get_or bs i 0) (omega arith))
          ∙ prefix_len_stops is_digit bs 0 (omega (arith, length-drop (at + 1) line)));
      worth = number ∙ ap (λ i. decimal (take i bs)) (omega arith);
      small = omega (arith, ltb-false most (decimal (take n bs)) c.0);
    }

pub numeral_told : {T : Type 0} (k : Kind T) (most_digits most : ℕ) (line : List ℕ) (at : ℕ) (f : Field T) → Stands k.worth_of most_digits most line at f → numeral_at k.of most_digits most line at ≡ Some f
numeral_told {T} k most_digits most line at f h =
    let bs = drop (at + 1) line in
    let n = f.next - (at + 1) in
    let some = h.some_digit in
    let few_digits = h.few_digits in
    let inside = h.inside in
    let long : length bs ≡ length line - (at + 1) = length-drop (at + 1) line in
    let run : digit_run bs ≡ n =
    prefix_len_is is_digit bs n 0 (omega arith)
    (λ i l. ap is_digit (get_or-drop (at + 1) line i 0) ∙ true_digit (get_or line (at + 1 + i) 0) (h.digits (at + 1 + i) (omega arith) (omega arith)))
    (λ l. ap is_digit (in_rest line (at + 1) f.next (omega arith)) ∙ false_digit (get_or line f.next 0) (h.no_further (omega arith))) in
    let few : (eqb n 0 || ltb most_digits n) ≡ false = or_from (eqb n 0) (ltb most_digits n) (ne_eqb n 0 (λ e. omega arith)) (le-ltb most_digits n (omega arith)) in
    let small : ltb most (decimal (take n bs)) ≡ false = le-ltb most (decimal (take n bs)) (omega (arith, h.small, h.worth)) in
    let starts : (ltb at (length line) && eqb (get_or line at 0) 32) ≡ true =
    and_from (ltb at (length line)) (eqb (get_or line at 0) 32) (lt-ltb at (length line) (omega arith)) (eq-eqb (get_or line at 0) 32 h.space) in
    let value : k.of (decimal (take n bs)) ≡ f.value = ap k.of (sym h.worth) ∙ k.back f.value in
    let next : at + 1 + n ≡ f.next = omega arith in
    let made : Some (record { value = k.of (decimal (take n bs)); next = at + 1 + n }) ≡ Some f = same_field _ _ f value next in
    let there : numeral_of k.of most_digits most bs (at + 1) n ≡ Some f = cond-false _ None _ few ∙ (cond-false _ None _ small ∙ made) in
    cond-true _ _ None starts ∙ subst (λ i. numeral_of k.of most_digits most bs (at + 1) i ≡ Some f) (sym run) there

-- what is read lies inside the line
pub within_from : {T : Type 0} (o : Option (Field T)) (n : ℕ) → ((f : Field T) → o ≡ Some f → f.next ≤ n) → IfSome o (λ f. f.next ≤ n)
within_from None n h = tt
within_from (Some f) n h = h f refl

-- numbers of 16 bits and of 32 stand for themselves
abbrev plain : Kind ℕ
plain = record { of = λ n. n; worth_of = λ n. n; told = λ n. refl; back = λ n. refl }

pub number_tells : (line : List ℕ) (at : ℕ) (f : Field ℕ) → number_at line at ≡ Some f → Numeral line at f
number_tells line at f h = numeral_tells plain 5 65535 line at f h

pub number_told : (line : List ℕ) (at : ℕ) (f : Field ℕ) → Numeral line at f → number_at line at ≡ Some f
number_told line at f h = numeral_told plain 5 65535 line at f h

pub wide_tells : (line : List ℕ) (at : ℕ) (f : Field ℕ) → wide_at line at ≡ Some f → WideNumeral line at f
wide_tells line at f h = numeral_tells plain 10 4294967295 line at f h

pub wide_told : (line : List ℕ) (at : ℕ) (f : Field ℕ) → WideNumeral line at f → wide_at line at ≡ Some f
wide_told line at f h = numeral_told plain 10 4294967295 line at f h
