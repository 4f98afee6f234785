-- A run with an exponent is read exactly if it has the form, and the number that it writes has at most 10 digits and at most 6 after the point.
use Prim.Native.Nat.{ℕ, zero, suc, ◌<◌, ◌≤◌}
use native.Mathlib.Omega.{arith}
use mathlib.Core.Path.{◌≡◌, refl, sym, ◌∙◌, ap}
use mathlib.Core.List.{List, [], ◌∷◌, ◌++◌, append-nil}
use mathlib.Core.Bool.{Bool, true, false, not, cond, ◌&&◌, ◌||◌}
use mathlib.Core.Logic.{◌↔◌}
use borrow.Author.Tests.{le-leb, leb-true, ne_eqb, eqb-true, ltb-true}
use lib.Dec.{eqb, ltb, leb}
use lib.ListN.{length, take, drop, get_or, take-append-drop}
use lib.Seq.{drop-append_seam}
use Rattle.number.specs.Answer.{Answer, given}
use Rattle.number.specs.Digits.{digit_of, leading, trailing, value_on, all_digits}
use Rattle.number.specs.Decimal.{Scaled, Form, signs, minus, is_exponent, exponent_size, point_moved, judged_decimal, moved_decimal, pointed, signed_by, is_e, mantissa, from_e, with_exponent, decimal_of}
use Rattle.number.specs.Exact.{digits_before, digits_after, digits_number, exponent_bytes, tens_up, tens_down, below_zero, Exact, Sign, no_sign, plus_sign, minus_sign, PointDigits, no_point, point, ExponentForm}
use Rattle.number.proofs.Forms.{judged-good}
use Rattle.number.proofs.Laws.{both, held, first-digits, decimal-form}
use Rattle.number.proofs.Exponents.{no_digit, digits-none, moved-turn, minus-same, decimal-exact}
use Rattle.number.proofs.OneReading.{exact_one}

-- ---- from the form to what is read

-- bytes without an E before one
cut-turn : (t : Bool) (b : ℕ) (l m : List ℕ) → (from_e l ≡ [] → m ≡ l) → cond t (b ∷ l) (from_e l) ≡ [] → cond t [] (b ∷ m) ≡ b ∷ l
cut-turn true b l m h e = let z : ◌≡◌ {A = ℕ} 0 1 = cc in absurd (omega arith)
cut-turn false b l m h e = ap (λ (x : List ℕ). b ∷ x) (h e)

cut-mantissa : (l : List ℕ) (e : ℕ) (x : List ℕ) → from_e l ≡ [] → is_e e ≡ true → mantissa (l ++ (e ∷ x)) ≡ l
unfolding mantissa from_e
cut-mantissa [] e x h g = rw g
cut-mantissa (b ∷ l) e x h g = cut-turn (is_e b) b l (mantissa (l ++ (e ∷ x))) (λ u. cut-mantissa l e x u g) h

from-turn : (t : Bool) (b : ℕ) (l r m : List ℕ) → (from_e l ≡ [] → m ≡ r) → cond t (b ∷ l) (from_e l) ≡ [] → cond t (b ∷ l ++ r) m ≡ r
from-turn true b l r m h e = let z : ◌≡◌ {A = ℕ} 0 1 = cc in absurd (omega arith)
from-turn false b l r m h e = h e

cut-from : (l : List ℕ) (e : ℕ) (x : List ℕ) → from_e l ≡ [] → is_e e ≡ true → from_e (l ++ (e ∷ x)) ≡ e ∷ x
unfolding from_e
cut-from [] e x h g = rw g
cut-from (b ∷ l) e x h g = from-turn (is_e b) b l (e ∷ x) (from_e (l ++ (e ∷ x))) (λ u. cut-from l e x u g) h

-- a sign, digits and a point have no E
none-turn : (t : Bool) (b : ℕ) (l m : List ℕ) → (from_e l ≡ [] → from_e m ≡ []) → cond t (b ∷ l) (from_e l) ≡ [] → cond t (b ∷ m) (from_e m) ≡ []
none-turn true b l m h e = let z : ◌≡◌ {A = ℕ} 0 1 = cc in absurd (omega arith)
none-turn false b l m h e = h e

both-none : (l r : List ℕ) → from_e l ≡ [] → from_e r ≡ [] → from_e (l ++ r) ≡ []
unfolding from_e
both-none [] r h g = g
both-none (b ∷ l) r h g = none-turn (is_e b) b l (l ++ r) (λ u. both-none l r u g) h

sign-none : {g : List ℕ} → Sign g → from_e g ≡ []
unfolding from_e is_e
sign-none no_sign = refl
sign-none plus_sign = refl
sign-none minus_sign = refl

after_none : {r : List ℕ} → PointDigits r → from_e r ≡ []
unfolding from_e is_e
after_none no_point = refl
after_none (point f h g) = digits-none f h

-- the sign is what stands before the digits
signs-are : {g : List ℕ} → Sign g → (i r : List ℕ) → all_digits 10 i ≡ true → 1 ≤ length i → signs (g ++ (i ++ r)) ≡ length g
unfolding signs all_digits digit_of
signs-are no_sign [] r h l = absurd (omega arith)
signs-are no_sign (b ∷ i) r h l =
    let d : digit_of b < 10 = ltb-true (digit_of b) 10 (both (ltb (digit_of b) 10) (all_digits 10 i) h).0 in
    rw (ne_eqb b 43 (λ e. no_digit b 43 16 e refl (omega arith) d), ne_eqb b 45 (λ e. no_digit b 45 16 e refl (omega arith) d))
signs-are plus_sign i r h l = refl
signs-are minus_sign i r h l = refl

past-sign : {g : List ℕ} → Sign g → (i r : List ℕ) → all_digits 10 i ≡ true → 1 ≤ length i → drop (signs (g ++ (i ++ r))) (g ++ (i ++ r)) ≡ i ++ r
past-sign {g} k i r h l = ap (λ (n : ℕ). drop n (g ++ (i ++ r))) (signs-are k i r h l) ∙ drop-append_seam g (i ++ r)

-- the digits come first, and what follows them begins with no digit
first-are : (i : List ℕ) {r : List ℕ} → PointDigits r → all_digits 10 i ≡ true → leading (i ++ r) ≡ i
unfolding leading all_digits digit_of
first-are [] no_point h = refl
first-are [] (point f u v) h = refl
first-are (b ∷ i) k h =
    let p = both (ltb (digit_of b) 10) (all_digits 10 i) h in
    rw p.0 (ap (λ (x : List ℕ). b ∷ x) (first-are i k p.1))

rest-is : (i : List ℕ) {r : List ℕ} → PointDigits r → all_digits 10 i ≡ true → trailing (i ++ r) ≡ r
unfolding trailing all_digits digit_of
rest-is [] no_point h = refl
rest-is [] (point f u v) h = refl
rest-is (b ∷ i) k h =
    let p = both (ltb (digit_of b) 10) (all_digits 10 i) h in
    rw p.0 (rest-is i k p.1)

pointed-is : (how : List ℕ → List ℕ → Answer Scaled) (i : List ℕ) {r : List ℕ} → PointDigits r → pointed how i r ≡ how i (drop 1 r)
unfolding pointed
pointed-is how i no_point = refl
pointed-is how i (point f h g) = rw (h, le-leb 1 (length f) g)

module _ (s : List ℕ) (k : ExponentForm s) where
  m : List ℕ
  m = k.sign ++ (k.digits ++ k.after)

  x : List ℕ
  x = k.power_sign ++ k.power

  f : List ℕ
  f = drop 1 k.after

  before : mantissa s ≡ m
  unfolding m x
  before =
      ap mantissa k.is
      ∙ cut-mantissa m k.e x (both-none k.sign (k.digits ++ k.after) (sign-none k.is_sign) (both-none k.digits k.after (digits-none k.digits k.are_digits) (after_none k.is_after))) k.has_e

  onward : from_e s ≡ k.e ∷ x
  unfolding m x
  onward =
      ap from_e k.is
      ∙ cut-from m k.e x (both-none k.sign (k.digits ++ k.after) (sign-none k.is_sign) (both-none k.digits k.after (digits-none k.digits k.are_digits) (after_none k.is_after))) k.has_e

  unsigned : drop (signs m) m ≡ k.digits ++ k.after
  unfolding m
  unsigned = past-sign k.is_sign k.digits k.after k.are_digits k.some_digits

  first : leading (drop (signs m) m) ≡ k.digits
  first = ap leading unsigned ∙ first-are k.digits k.is_after k.are_digits

  rest : trailing (drop (signs m) m) ≡ k.after
  rest = ap trailing unsigned ∙ rest-is k.digits k.is_after k.are_digits

  power-past : drop (signs x) x ≡ k.power
  unfolding x
  power-past =
      let e : k.power ++ [] ≡ k.power = append-nil k.power in
      let q = past-sign k.is_power_sign k.power [] k.is_power k.one_or_two.0 in
      rw e at q

  is-exponent : is_exponent x ≡ true
  unfolding is_exponent
  is-exponent = rw (power-past, k.is_power, le-leb 1 (length k.power) k.one_or_two.0, le-leb (length k.power) 2 k.one_or_two.1)

  moved : Scaled
  moved = point_moved (minus m) (value_on 10 0 (k.digits ++ f)) (length f) x

  read-moved : decimal_of s ≡ judged_decimal moved
  unfolding decimal_of with_exponent signed_by moved_decimal moved f
  read-moved =
      let a : decimal_of s ≡ signed_by (moved_decimal x) m = ap (with_exponent s) onward ∙ ap (signed_by (moved_decimal x)) before in
      let b : signed_by (moved_decimal x) m ≡ moved_decimal x (minus m) k.digits f = rw (first, rest) (pointed-is (moved_decimal x (minus m)) k.digits k.is_after) in
      let c : moved_decimal x (minus m) k.digits f ≡ judged_decimal moved = rw (le-leb 1 (length k.digits) k.some_digits, is-exponent) in
      a ∙ b ∙ c

  moved-exact : Exact s moved
  unfolding moved f digits_number digits_before digits_after exponent_bytes tens_up tens_down below_zero point_moved
  moved-exact =
      let h = moved-turn (minus x) (minus m) (value_on 10 0 (k.digits ++ f)) (length f) (exponent_size x) moved refl in
      let o : minus m ≡ minus s = sym (ap minus before) ∙ minus-same s in
      record {
        sign = rw (before, first, rest) (h.sign ∙ ap (λ (b : Bool). b && not (eqb (value_on 10 0 (k.digits ++ f)) 0)) o);
        value = rw (before, onward, first, rest) h.value;
        least = h.least;
      }

  form-read : (d : Scaled) → Exact s d → Form d → decimal_of s ≡ given d
  form-read d p g =
      let e : moved ≡ d = exact_one s s moved d moved-exact p (record { sign = refl; value = refl }) in
      read-moved ∙ ap judged_decimal e ∙ sym (judged-good d g.whole_most g.tens_most)

-- ---- from what is read to the form

cut-join-turn : (t : Bool) (b : ℕ) (s : List ℕ) → mantissa s ++ from_e s ≡ s → cond t [] (b ∷ mantissa s) ++ cond t (b ∷ s) (from_e s) ≡ b ∷ s
cut-join-turn true b s h = refl
cut-join-turn false b s h = ap (λ (x : List ℕ). b ∷ x) h

cut-join : (s : List ℕ) → mantissa s ++ from_e s ≡ s
unfolding mantissa from_e
cut-join [] = refl
cut-join (b ∷ s) = cut-join-turn (is_e b) b s (cut-join s)

lead-join-turn : (t : Bool) (b : ℕ) (l : List ℕ) → leading l ++ trailing l ≡ l → cond t (b ∷ leading l) [] ++ cond t (trailing l) (b ∷ l) ≡ b ∷ l
lead-join-turn true b l h = ap (λ (x : List ℕ). b ∷ x) h
lead-join-turn false b l h = refl

lead-join : (l : List ℕ) → leading l ++ trailing l ≡ l
unfolding leading trailing
lead-join [] = refl
lead-join (b ∷ l) = lead-join-turn (ltb (digit_of b) 10) b l (lead-join l)

-- the byte that the rest begins with is an E
e-turn : (t : Bool) (b c : ℕ) (s x : List ℕ) → is_e b ≡ t → (from_e s ≡ c ∷ x → is_e c ≡ true) → cond t (b ∷ s) (from_e s) ≡ c ∷ x → is_e c ≡ true
e-turn true b c s x o h q = let e : b ≡ c = cc in rw (← e) o
e-turn false b c s x o h q = h q

from-e : (s : List ℕ) (c : ℕ) (x : List ℕ) → from_e s ≡ c ∷ x → is_e c ≡ true
unfolding from_e
from-e [] c x q = let z : ◌≡◌ {A = ℕ} 0 1 = cc in absurd (omega arith)
from-e (b ∷ s) c x q = e-turn (is_e b) b c s x refl (from-e s c x) q

-- what the signs are
minus-turn : (b : ℕ) (m : List ℕ) (t : Bool) → eqb b 45 ≡ t → Sign (take (cond t 1 0) (b ∷ m))
minus-turn b m true e = rw (eqb-true b 45 e) minus_sign
minus-turn b m false e = no_sign

plus_turn : (b : ℕ) (m : List ℕ) (t : Bool) → eqb b 43 ≡ t → Sign (take (cond (t || eqb b 45) 1 0) (b ∷ m))
plus_turn b m true e = rw (eqb-true b 43 e) plus_sign
plus_turn b m false e = minus-turn b m (eqb b 45) refl

sign-is : (m : List ℕ) → Sign (take (signs m) m)
unfolding signs
sign-is [] = no_sign
sign-is (b ∷ m) = plus_turn b m (eqb b 43) refl

-- what stands after the digits
after_is : (d : Scaled) (how : List ℕ → List ℕ → Answer Scaled) (i r : List ℕ) → given d ≡ pointed how i r → PointDigits r × (given d ≡ how i (drop 1 r))
unfolding pointed
after_is d how i [] q = (no_point, q)
after_is d how i (b ∷ f) q =
    let h = held d (eqb b 46 && all_digits 10 f && leb 1 (length f)) (how i f) q in
    let p = both (eqb b 46 && all_digits 10 f) (leb 1 (length f)) h.0 in
    let t = both (eqb b 46) (all_digits 10 f) p.0 in
    (rw (eqb-true b 46 t.0) (point f t.1 (leb-true 1 (length f) p.1)), h.1)

module _ (s : List ℕ) (d : Scaled) (e : ℕ) (x : List ℕ) (o : from_e s ≡ e ∷ x) (q : decimal_of s ≡ given d) where
  n : List ℕ
  n = mantissa s

  given-pointed : given d ≡ pointed (moved_decimal x (minus n)) (leading (drop (signs n) n)) (trailing (drop (signs n) n))
  unfolding decimal_of with_exponent signed_by n
  given-pointed = sym q ∙ ap (with_exponent s) o

  read-form : ExponentForm s
  unfolding moved_decimal is_exponent n
  read-form =
      let i = leading (drop (signs n) n) in
      let r = trailing (drop (signs n) n) in
      let a = after_is d (moved_decimal x (minus n)) i r given-pointed in
      let h = held d (leb 1 (length i) && is_exponent x) (judged_decimal (point_moved (minus n) (value_on 10 0 (i ++ drop 1 r)) (length (drop 1 r)) x)) a.1 in
      let t = both (leb 1 (length i)) (is_exponent x) h.0 in
      let p = drop (signs x) x in
      let u = both (all_digits 10 p && leb 1 (length p)) (leb (length p) 2) t.1 in
      let v = both (all_digits 10 p) (leb 1 (length p)) u.0 in
      let w : n ≡ take (signs n) n ++ (i ++ r) = sym (ap (λ (l : List ℕ). take (signs n) n ++ l) (lead-join (drop (signs n) n)) ∙ take-append-drop (signs n) n) in
      let y : x ≡ take (signs x) x ++ p = sym (take-append-drop (signs x) x) in
      record {
        sign = take (signs n) n;
        digits = i;
        after = r;
        e = e;
        power_sign = take (signs x) x;
        power = p;
        is = sym (cut-join s) ∙ ap (λ (l : List ℕ). n ++ l) (o ∙ ap (λ (l : List ℕ). e ∷ l) y) ∙ ap (λ (l : List ℕ). l ++ (e ∷ take (signs x) x ++ p)) w;
        is_sign = sign-is n;
        are_digits = first-digits (drop (signs n) n);
        some_digits = leb-true 1 (length i) t.0;
        is_after = a.0;
        has_e = from-e s e x o;
        is_power_sign = sign-is x;
        is_power = v.0;
        one_or_two = (leb-true 1 (length p) v.1, leb-true (length p) 2 u.1);
      }

-- a run that has an E or e has bytes from it on
some_turn : (t : Bool) (b : ℕ) (s : List ℕ) → (t ≡ false → (e : ℕ) × (x : List ℕ) × (from_e s ≡ e ∷ x)) → (e : ℕ) × (x : List ℕ) × (cond t (b ∷ s) (from_e s) ≡ e ∷ x)
some_turn true b s h = (b, s, refl)
some_turn false b s h = h refl

some-e : (s : List ℕ) (i : ℕ) → is_e (get_or s i 0) ≡ true → (e : ℕ) × (x : List ℕ) × (from_e s ≡ e ∷ x)
unfolding from_e is_e
some-e [] i h = let z : ◌≡◌ {A = ℕ} 0 1 = cc in absurd (omega arith)
some-e (b ∷ s) zero h = some_turn (is_e b) b s (λ f. let z : ◌≡◌ {A = ℕ} 0 1 = cc in absurd (omega arith))
some-e (b ∷ s) (suc i) h = some_turn (is_e b) b s (λ f. some-e s i h)

-- "It is accepted if, after moving the point and dropping needless zeros, it has at most 10 digits and at most 6 after the point; otherwise still 2.": a run with
-- an E or e is read as the number d exactly if it has the form, d is exactly what it writes, and d has at most so many digits
pub exponent-exactly : (s : List ℕ) (i : ℕ) → is_e (get_or s i 0) ≡ true → (d : Scaled) → (decimal_of s ≡ given d) ↔ (ExponentForm s × Exact s d × Form d)
exponent-exactly s i h d =
    let p = some-e s i h in
    ((λ q. (read-form s d p.0 p.1 p.2 q, decimal-exact s d (sym q), decimal-form s d (sym q))), (λ t. form-read s t.0 d t.1 t.2))
