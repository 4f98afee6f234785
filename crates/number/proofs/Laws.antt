-- What callers need to know of every number that is read: its bounds, that the power of ten is the smallest, and that 2 is the only refusal.
use Prim.Native.Nat.{ℕ, zero, suc, ◌+◌, ◌*◌, ◌-◌, ◌/◌, ◌%◌, ◌^◌, ◌<◌, ◌≤◌}
use native.Mathlib.Nat.{pow-suc, pow-le-pow_right, mul_assoc, mul_comm}
use native.Mathlib.Omega.{arith}
use mathlib.Core.Path.{◌≡◌, refl, sym, ◌∙◌, ap}
use mathlib.Core.List.{List, [], ◌∷◌, ◌++◌}
use mathlib.Core.Bool.{Bool, true, false, cond, ◌&&◌}
use borrow.Author.Tests.{leb-true, ltb-true, eqb-true, eqb-false}
use lib.Dec.{eqb, ltb, leb}
use lib.ListN.{length, take, drop, get_or, length-append}
use Rattle.number.specs.Answer.{Answer, given, refused, in_run}
use Rattle.number.specs.Digits.{digit_of, leading, trailing, value_on, all_digits}
use Rattle.number.specs.Whole.{whole_from, whole_of}
use Rattle.number.specs.Decimal.{Scaled, Form, most_digits, most_after, most_whole, signs, minus, lowest, made, is_exponent, point_moved, judged_decimal, moved_decimal, pointed, signed_by, plain_of, mantissa, from_e, with_exponent, decimal_of}

pub both : (a b : Bool) → (a && b) ≡ true → (a ≡ true) × (b ≡ true)
both true b h = (refl, h)
both false b h = let z : ◌≡◌ {A = ℕ} 0 1 = cc in absurd (omega arith)

-- where an answer is given, the test before it held
module _ {A : Type 0} (d : A) where
  pub held : (t : Bool) (x : Answer A) → given d ≡ cond t x (refused 2) → (t ≡ true) × (given d ≡ x)
  held true x q = (refl, q)
  held false x q = let z : ◌≡◌ {A = ℕ} 0 1 = cc in absurd (omega arith)

-- k digits write a number below 10^k
below : (n k : ℕ) (ds : List ℕ) → all_digits 10 ds ≡ true → n < 10 ^ k → value_on 10 n ds < 10 ^ (k + length ds)
unfolding value_on all_digits
below n k [] h l = let e : k + 0 ≡ k = omega arith in rw e l
below n k (b ∷ ds) h l =
    let p = both (ltb (digit_of b) 10) (all_digits 10 ds) h in
    let d : digit_of b < 10 = ltb-true (digit_of b) 10 p.0 in
    let m : n * 10 + digit_of b < 10 ^ suc k = omega (arith, pow-suc 10 k) in
    let e : k + suc (length ds) ≡ suc k + length ds = omega arith in
    rw e (below (n * 10 + digit_of b) (suc k) ds p.1 m)

-- the digits that come first are digits, and so are two runs of digits together
first-turn : (t : Bool) (b : ℕ) (l : List ℕ) → ltb (digit_of b) 10 ≡ t → all_digits 10 l ≡ true → all_digits 10 (cond t (b ∷ l) []) ≡ true
unfolding all_digits
first-turn true b l e h = rw (e, h)
first-turn false b l e h = refl

pub first-digits : (l : List ℕ) → all_digits 10 (leading l) ≡ true
unfolding leading all_digits
first-digits [] = refl
first-digits (b ∷ l) = first-turn (ltb (digit_of b) 10) b (leading l) refl (first-digits l)

both-digits : (i f : List ℕ) → all_digits 10 i ≡ true → all_digits 10 f ≡ true → all_digits 10 (i ++ f) ≡ true
unfolding all_digits
both-digits [] f h g = g
both-digits (b ∷ i) f h g = let p = both (ltb (digit_of b) 10) (all_digits 10 i) h in rw (p.0, both-digits i f p.1 g)

-- the smallest power of ten: it makes nothing greater
record Lower (n t : ℕ) (d : Scaled) : Type 0 where
  whole_low : d.whole ≤ n
  tens_low : d.tens ≤ t

lower-turn : (neg : Bool) (n t : ℕ) (b : Bool) → Lower (n / 10) t (lowest neg (n / 10) t) →
    Lower n (suc t) (cond b (lowest neg (n / 10) t) (record { negative = neg; whole = n; tens = suc t }))
lower-turn neg n t true h = record { whole_low = omega (arith, h.whole_low); tens_low = omega (arith, h.tens_low) }
lower-turn neg n t false h = record { whole_low = omega arith; tens_low = omega arith }

lower : (neg : Bool) (n t : ℕ) → Lower n t (lowest neg n t)
unfolding lowest
lower neg n zero = record { whole_low = omega arith; tens_low = omega arith }
lower neg n (suc t) = lower-turn neg n t (eqb (n % 10) 0) (lower neg (n / 10) t)

module _ (d : Scaled) (neg : Bool) (i : List ℕ) (first : all_digits 10 i ≡ true) where
  pub made-form : (f : List ℕ) → all_digits 10 f ≡ true → given d ≡ made neg i f → Form d
  unfolding made
  made-form f g q =
      let n = value_on 10 0 (i ++ f) in
      let h = held d (leb 1 (length i) && leb (length i + length f) most_digits && leb (length f) most_after) (given (lowest neg n (length f))) q in
      let p = both (leb 1 (length i) && leb (length i + length f) most_digits) (leb (length f) most_after) h.0 in
      let r = both (leb 1 (length i)) (leb (length i + length f) most_digits) p.0 in
      let e : d ≡ lowest neg n (length f) = cc h.1 in
      let l = lower neg n (length f) in
      let z : 0 < 10 ^ 0 = omega arith in
      let k = length-append i f in
      let c : 0 + length (i ++ f) ≤ 10 = omega (arith, leb-true (length i + length f) most_digits r.1) in
      let s = below 0 0 (i ++ f) (both-digits i f first g) z in
      let w : 10 ^ (0 + length (i ++ f)) ≤ 10 ^ 10 = pow-le-pow_right (omega arith) c in
      rw e (record { whole_most = omega (arith, l.whole_low); tens_most = omega (arith, l.tens_low, leb-true (length f) most_after p.1) })

judged-form : (d e : Scaled) → given d ≡ judged_decimal e → Form d
unfolding judged_decimal
judged-form d e q =
    let h = held d (leb e.whole most_whole && leb e.tens most_after) (given e) q in
    let p = both (leb e.whole most_whole) (leb e.tens most_after) h.0 in
    let z : d ≡ e = cc h.1 in
    rw z (record { whole_most = leb-true e.whole most_whole p.0; tens_most = leb-true e.tens most_after p.1 })

module _ (d : Scaled) where
  moved-form : (x : List ℕ) (neg : Bool) (i f : List ℕ) → given d ≡ moved_decimal x neg i f → Form d
  unfolding moved_decimal
  moved-form x neg i f q =
      let e = point_moved neg (value_on 10 0 (i ++ f)) (length f) x in
      judged-form d e (held d (leb 1 (length i) && is_exponent x) (judged_decimal e) q).1

  pointed-form : (how : List ℕ → List ℕ → Answer Scaled) (i : List ℕ) → ((f : List ℕ) → all_digits 10 f ≡ true → given d ≡ how i f → Form d) →
      (r : List ℕ) → given d ≡ pointed how i r → Form d
  unfolding pointed all_digits
  pointed-form how i g [] q = g [] refl q
  pointed-form how i g (b ∷ f) q =
      let h = held d (eqb b 46 && all_digits 10 f && leb 1 (length f)) (how i f) q in
      let p = both (eqb b 46 && all_digits 10 f) (leb 1 (length f)) h.0 in
      g f (both (eqb b 46) (all_digits 10 f) p.0).1 h.1

  plain_form : (s : List ℕ) → given d ≡ plain_of s → Form d
  unfolding plain_of signed_by
  plain_form s q =
      let i = leading (drop (signs s) s) in
      pointed-form (made (minus s)) i (made-form d (minus s) i (first-digits (drop (signs s) s))) (trailing (drop (signs s) s)) q

  exponent-form : (s r : List ℕ) → given d ≡ with_exponent s r → Form d
  unfolding with_exponent signed_by
  exponent-form s [] q = plain_form s q
  exponent-form s (e ∷ x) q =
      let m = mantissa s in
      let i = leading (drop (signs m) m) in
      pointed-form (moved_decimal x (minus m)) i (λ f g. moved-form x (minus m) i f) (trailing (drop (signs m) m)) q

-- every decimal that is read has ten digits at most, six of them after the point
pub decimal-form : (s : List ℕ) (d : Scaled) → given d ≡ decimal_of s → Form d
unfolding decimal_of
decimal-form s d q = exponent-form d s (from_e s) q

module _ (most n : ℕ) where
  from-most : (base : ℕ) (ds : List ℕ) → given n ≡ whole_from base most ds → n ≤ most
  unfolding whole_from
  from-most base ds q =
      let h = held n (all_digits base ds && leb (value_on base 0 ds) most && leb 1 (length ds)) (given (value_on base 0 ds)) q in
      let p = both (all_digits base ds && leb (value_on base 0 ds) most) (leb 1 (length ds)) h.0 in
      let e : n ≡ value_on base 0 ds = cc h.1 in
      rw e (leb-true (value_on base 0 ds) most (both (all_digits base ds) (leb (value_on base 0 ds) most) p.0).1)

  most-turn : (t u : Bool) (x y : Answer ℕ) → (given n ≡ x → n ≤ most) → (given n ≡ y → n ≤ most) → given n ≡ cond t (cond u x (refused 2)) y → n ≤ most
  most-turn true u x y hx hy q = hx (held n u x q).1
  most-turn false u x y hx hy q = hy q

-- every whole number that is read is at most the greatest of its parameter's type
pub whole_most : (most : ℕ) (s : List ℕ) (n : ℕ) → given n ≡ whole_of most s → n ≤ most
unfolding whole_of
whole_most most s n q =
    most-turn most n (leb 2 (length s) && eqb (get_or s 0 0) 48 && eqb (get_or s 1 0) 120) (leb (length (drop 2 s)) 8)
    (whole_from 16 most (drop 2 s)) (whole_from 10 most s) (from-most most n 16 (drop 2 s)) (from-most most n 10 s) q

-- a run between two places, where it is read, is read as a run
pub run-given : {A : Type 0} (read : List ℕ → Answer A) (s : List ℕ) (from to : ℕ) (d : A) → given d ≡ in_run read s from to → given d ≡ read (take (to - from) (drop from s))
unfolding in_run
run-given read s from to d q = (held d (leb from to && leb to (length s)) (read (take (to - from) (drop from s))) q).1

-- "the smallest power of ten that does": the number stays what it was
same_turn : (neg : Bool) (n t : ℕ) (b : Bool) → eqb (n % 10) 0 ≡ b → (d : Scaled) → d.whole * 10 ^ t ≡ n / 10 * 10 ^ d.tens →
    (cond b d (record { negative = neg; whole = n; tens = suc t })).whole * 10 ^ suc t ≡ n * 10 ^ (cond b d (record { negative = neg; whole = n; tens = suc t })).tens
same_turn neg n t true e d h =
    let z : n % 10 ≡ 0 = eqb-true (n % 10) 0 e in
    let m : n ≡ n / 10 * 10 = omega arith in
    let l : d.whole * 10 ^ suc t ≡ n / 10 * 10 ^ d.tens * 10 = ap (λ (x : ℕ). d.whole * x) (pow-suc 10 t) ∙ sym (mul_assoc d.whole (10 ^ t) 10) ∙ ap (λ (x : ℕ). x * 10) h in
    l ∙ mul_assoc (n / 10) (10 ^ d.tens) 10 ∙ ap (λ (x : ℕ). n / 10 * x) (mul_comm (10 ^ d.tens) 10) ∙ sym (mul_assoc (n / 10) 10 (10 ^ d.tens)) ∙ ap (λ (x : ℕ). x * 10 ^ d.tens) (sym m)
same_turn neg n t false e d h = refl

pub lowest-same : (neg : Bool) (n t : ℕ) → (lowest neg n t).whole * 10 ^ t ≡ n * 10 ^ (lowest neg n t).tens
unfolding lowest
lowest-same neg n zero = refl
lowest-same neg n (suc t) = same_turn neg n t (eqb (n % 10) 0) refl (lowest neg (n / 10) t) (lowest-same neg (n / 10) t)

-- and no smaller power does: where there is a power, the last digit is not 0
least-turn : (neg : Bool) (n t : ℕ) (b : Bool) → eqb (n % 10) 0 ≡ b → (d : Scaled) → (0 < d.tens → d.whole % 10 ≡ 0 → ⊥) →
    0 < (cond b d (record { negative = neg; whole = n; tens = suc t })).tens → (cond b d (record { negative = neg; whole = n; tens = suc t })).whole % 10 ≡ 0 → ⊥
least-turn neg n t true e d h l z = h l z
least-turn neg n t false e d h l z = eqb-false (n % 10) 0 e z

pub lowest-least : (neg : Bool) (n t : ℕ) → 0 < (lowest neg n t).tens → (lowest neg n t).whole % 10 ≡ 0 → ⊥
unfolding lowest
lowest-least neg n zero l z = omega arith
lowest-least neg n (suc t) l z = least-turn neg n t (eqb (n % 10) 0) refl (lowest neg (n / 10) t) (lowest-least neg (n / 10) t) l z

-- 2 is the only refusal
module _ {A : Type 0} (k : ℕ) where
  two : (t : Bool) (x : Answer A) → (refused k ≡ x → k ≡ 2) → refused k ≡ cond t x (refused 2) → k ≡ 2
  two true x h q = h q
  two false x h q = cc

  not-given : (d : A) → refused k ≡ given d → k ≡ 2
  not-given d q = let z : ◌≡◌ {A = ℕ} 0 1 = cc in absurd (omega arith)

  pub run-refused : (read : List ℕ → Answer A) → ((s : List ℕ) → refused k ≡ read s → k ≡ 2) → (s : List ℕ) (from to : ℕ) → refused k ≡ in_run read s from to → k ≡ 2
  unfolding in_run
  run-refused read h s from to q = two (leb from to && leb to (length s)) (read (take (to - from) (drop from s))) (h (take (to - from) (drop from s))) q

module _ (k : ℕ) where
  made-refused : (neg : Bool) (i f : List ℕ) → refused k ≡ made neg i f → k ≡ 2
  unfolding made
  made-refused neg i f q =
      two k (leb 1 (length i) && leb (length i + length f) most_digits && leb (length f) most_after) (given (lowest neg (value_on 10 0 (i ++ f)) (length f))) (not-given k (lowest neg (value_on 10 0 (i ++ f)) (length f))) q

  judged-refused : (d : Scaled) → refused k ≡ judged_decimal d → k ≡ 2
  unfolding judged_decimal
  judged-refused d q = two k (leb d.whole most_whole && leb d.tens most_after) (given d) (not-given k d) q

  moved-refused : (x : List ℕ) (neg : Bool) (i f : List ℕ) → refused k ≡ moved_decimal x neg i f → k ≡ 2
  unfolding moved_decimal
  moved-refused x neg i f q =
      let e = point_moved neg (value_on 10 0 (i ++ f)) (length f) x in
      two k (leb 1 (length i) && is_exponent x) (judged_decimal e) (judged-refused e) q

  pointed-refused : (how : List ℕ → List ℕ → Answer Scaled) (i : List ℕ) → ((f : List ℕ) → refused k ≡ how i f → k ≡ 2) → (r : List ℕ) → refused k ≡ pointed how i r → k ≡ 2
  unfolding pointed
  pointed-refused how i g [] q = g [] q
  pointed-refused how i g (b ∷ f) q = two k (eqb b 46 && all_digits 10 f && leb 1 (length f)) (how i f) (g f) q

  exponent-refused : (s r : List ℕ) → refused k ≡ with_exponent s r → k ≡ 2
  unfolding with_exponent plain_of signed_by
  exponent-refused s [] q =
      let i = leading (drop (signs s) s) in
      pointed-refused (made (minus s)) i (made-refused (minus s) i) (trailing (drop (signs s) s)) q
  exponent-refused s (e ∷ x) q =
      let m = mantissa s in
      let i = leading (drop (signs m) m) in
      pointed-refused (moved_decimal x (minus m)) i (moved-refused x (minus m) i) (trailing (drop (signs m) m)) q

  pub decimal-refused : (s : List ℕ) → refused k ≡ decimal_of s → k ≡ 2
  unfolding decimal_of
  decimal-refused s q = exponent-refused s (from_e s) q

  from-refused : (base most : ℕ) (ds : List ℕ) → refused k ≡ whole_from base most ds → k ≡ 2
  unfolding whole_from
  from-refused base most ds q = two k (all_digits base ds && leb (value_on base 0 ds) most && leb 1 (length ds)) (given (value_on base 0 ds)) (not-given k (value_on base 0 ds)) q

  whole-turn : (t : Bool) (x y : Answer ℕ) → (refused k ≡ x → k ≡ 2) → (refused k ≡ y → k ≡ 2) → refused k ≡ cond t x y → k ≡ 2
  whole-turn true x y h g q = h q
  whole-turn false x y h g q = g q

  pub whole-refused : (most : ℕ) (s : List ℕ) → refused k ≡ whole_of most s → k ≡ 2
  unfolding whole_of
  whole-refused most s q =
      whole-turn (leb 2 (length s) && eqb (get_or s 0 0) 48 && eqb (get_or s 1 0) 120) (cond (leb (length (drop 2 s)) 8) (whole_from 16 most (drop 2 s)) (refused 2)) (whole_from 10 most s)
      (two k (leb (length (drop 2 s)) 8) (whole_from 16 most (drop 2 s)) (from-refused 16 most (drop 2 s))) (from-refused 10 most s) q
