-- What stays as it was without an exponent, and what an exponent means.
use Prim.Native.Nat.{ℕ, zero, suc, ◌+◌, ◌*◌, ◌/◌, ◌%◌, ◌^◌, ◌<◌, ◌≤◌}
use native.Mathlib.Nat.{zero-mul}
use native.Mathlib.Omega.{arith}
use mathlib.Core.Path.{◌≡◌, refl, sym, ◌∙◌, ap}
use mathlib.Core.List.{List, [], ◌∷◌, ◌++◌}
use mathlib.Core.Bool.{Bool, true, false, not, cond, ◌&&◌, ◌||◌, and-true}
use borrow.Author.Tests.{ne_eqb, eqb-true, eqb-false, ltb-true}
use lib.Dec.{eqb, ltb, leb}
use lib.ListN.{length, drop, get_or}
use Rattle.number.specs.Answer.{Answer, given}
use Rattle.number.specs.Digits.{digit_of, leading, trailing, value_on, all_digits}
use Rattle.number.specs.Decimal.{Scaled, most_digits, most_after, most_whole, signs, minus, lowest, made, is_exponent, exponent_size, point_moved, judged_decimal, moved_decimal, pointed, signed_by, plain_of, is_e, mantissa, from_e, with_exponent, decimal_of}
use Rattle.number.specs.Exact.{digits_before, digits_after, digits_number, exponent_bytes, tens_up, tens_down, below_zero, Exact}
use Rattle.number.proofs.Laws.{both, held, lowest-same, lowest-least}
use Rattle.number.proofs.Tens.{ten-sum, ten-grows, ten-none}

-- a byte that is no E is passed over
none-turn : (t : Bool) (b : ℕ) (s : List ℕ) → t ≡ false → from_e s ≡ [] → cond t (b ∷ s) (from_e s) ≡ []
none-turn true b s h e = let z : ◌≡◌ {A = ℕ} 0 1 = cc in absurd (omega arith)
none-turn false b s h e = e

-- no byte is an E or e: there is no exponent
without : (s : List ℕ) → ((i : ℕ) → is_e (get_or s i 0) ≡ false) → from_e s ≡ []
unfolding from_e
without [] h = refl
without (b ∷ s) h = none-turn (is_e b) b s (h 0) (without s (λ i. h (suc i)))

no-e-plain : (s : List ℕ) → from_e s ≡ [] → decimal_of s ≡ plain_of s
unfolding decimal_of with_exponent
no-e-plain s e = rw e

-- "Numbers without an exponent read as before.": a run in which no byte is an E or e (past its end a run has 0) reads as document 01 has it
pub plain-as-before : (s : List ℕ) → ((i : ℕ) → is_e (get_or s i 0) ≡ false) → decimal_of s ≡ plain_of s
plain-as-before s h = no-e-plain s (without s h)

-- a digit, a sign and a point are no E
pub no_digit : (b k v : ℕ) → b ≡ k → digit_of k ≡ v → 10 ≤ v → digit_of b < 10 → ⊥
no_digit b k v e h g l = let o : digit_of b ≡ v = ap digit_of e ∙ h in omega (arith, o)

point-e : (b : ℕ) → b ≡ 46 → is_e b ≡ false
unfolding is_e
point-e b e = rw e

sign-e : (b : ℕ) (t : Bool) → eqb b 43 ≡ t → (t || eqb b 45) ≡ true → is_e b ≡ false
unfolding is_e
sign-e b true o h = let e : b ≡ 43 = eqb-true b 43 o in rw e
sign-e b false o h = let e : b ≡ 45 = eqb-true b 45 h in rw e

minus-e : (b : ℕ) → b ≡ 45 → is_e b ≡ true → ⊥
unfolding is_e
minus-e b e h = let f : is_e b ≡ false = rw e in let z : ◌≡◌ {A = ℕ} 0 1 = cc in omega arith

digit-turn : (b : ℕ) → ltb (digit_of b) 10 ≡ true → is_e b ≡ false
unfolding is_e digit_of
digit-turn b h =
    let l : digit_of b < 10 = ltb-true (digit_of b) 10 h in
    rw (ne_eqb b 69 (λ e. no_digit b 69 14 e refl (omega arith) l), ne_eqb b 101 (λ e. no_digit b 101 14 e refl (omega arith) l))

pub digits-none : (l : List ℕ) → all_digits 10 l ≡ true → from_e l ≡ []
unfolding from_e all_digits
digits-none [] h = refl
digits-none (b ∷ l) h =
    let p = both (ltb (digit_of b) 10) (all_digits 10 l) h in
    none-turn (is_e b) b l (digit-turn b p.0) (digits-none l p.1)

lead-turn : (t : Bool) (b : ℕ) (l : List ℕ) → ltb (digit_of b) 10 ≡ t → (from_e (trailing l) ≡ [] → from_e l ≡ []) → from_e (cond t (trailing l) (b ∷ l)) ≡ [] → from_e (b ∷ l) ≡ []
unfolding from_e
lead-turn true b l o h e = none-turn (is_e b) b l (digit-turn b o) (h e)
lead-turn false b l o h e = e

lead-none : (l : List ℕ) → from_e (trailing l) ≡ [] → from_e l ≡ []
unfolding trailing
lead-none [] e = e
lead-none (b ∷ l) e = lead-turn (ltb (digit_of b) 10) b l refl (lead-none l) e

sign-turn : (b : ℕ) (s : List ℕ) (t : Bool) → (eqb b 43 || eqb b 45) ≡ t → from_e (drop (cond t 1 0) (b ∷ s)) ≡ [] → from_e (b ∷ s) ≡ []
unfolding from_e
sign-turn b s true h e = none-turn (is_e b) b s (sign-e b (eqb b 43) refl h) e
sign-turn b s false h e = e

sign-none : (s : List ℕ) → from_e (drop (signs s) s) ≡ [] → from_e s ≡ []
unfolding signs
sign-none [] e = e
sign-none (b ∷ s) e = sign-turn b s (eqb b 43 || eqb b 45) refl e

rest-none : (d : Scaled) (how : List ℕ → List ℕ → Answer Scaled) (i r : List ℕ) → given d ≡ pointed how i r → from_e r ≡ []
unfolding pointed from_e
rest-none d how i [] q = refl
rest-none d how i (b ∷ f) q =
    let h = held d (eqb b 46 && all_digits 10 f && leb 1 (length f)) (how i f) q in
    let p = both (eqb b 46 && all_digits 10 f) (leb 1 (length f)) h.0 in
    let t = both (eqb b 46) (all_digits 10 f) p.0 in
    none-turn (is_e b) b f (point-e b (eqb-true b 46 t.0)) (digits-none f t.1)

-- "2 is narrower": what was read before is read so still
pub refused-narrower : (s : List ℕ) (d : Scaled) → given d ≡ plain_of s → given d ≡ decimal_of s
unfolding plain_of signed_by
refused-narrower s d q =
    let b = drop (signs s) s in
    q ∙ sym (no-e-plain s (sign-none s (lead-none b (rest-none d (made (minus s)) (leading b) (trailing b) q))))

-- the sign is the run's, and 0 has none
tenth-zero : (n : ℕ) → n % 10 ≡ 0 → eqb (n / 10) 0 ≡ eqb n 0
tenth-zero zero z = refl
tenth-zero (suc n) z = let a : suc n / 10 ≡ 0 → ⊥ = λ q. omega arith in let b : suc n ≡ 0 → ⊥ = λ q. omega arith in ne_eqb (suc n / 10) 0 a ∙ sym (ne_eqb (suc n) 0 b)

sign_low : (neg : Bool) (n t : ℕ) (b : Bool) → eqb (n % 10) 0 ≡ b → (lowest neg (n / 10) t).negative ≡ (neg && not (eqb (n / 10) 0))
    → (cond b (lowest neg (n / 10) t) (record { negative = neg; whole = n; tens = suc t })).negative ≡ (neg && not (eqb n 0))
sign_low neg n t true e h = h ∙ ap (λ (x : Bool). neg && not x) (tenth-zero n (eqb-true (n % 10) 0 e))
sign_low neg n t false e h = let z : n ≡ 0 → ⊥ = λ q. eqb-false (n % 10) 0 e (rw q) in rw (ne_eqb n 0 z, and-true)

lowest-sign : (neg : Bool) (n t : ℕ) → (lowest neg n t).negative ≡ (neg && not (eqb n 0))
unfolding lowest
lowest-sign neg n zero = refl
lowest-sign neg n (suc t) = sign_low neg n t (eqb (n % 10) 0) refl (lowest-sign neg (n / 10) t)

raised-zero : (n k : ℕ) → eqb (n * 10 ^ k) 0 ≡ eqb n 0
raised-zero zero k = let z : 0 * 10 ^ k ≡ 0 = zero-mul (10 ^ k) in rw z
raised-zero (suc n) k =
    let l = ten-grows (suc n) k in
    let a : suc n * 10 ^ k ≡ 0 → ⊥ = λ q. omega (arith, l, q) in
    let b : suc n ≡ 0 → ⊥ = λ q. omega arith in
    ne_eqb (suc n * 10 ^ k) 0 a ∙ sym (ne_eqb (suc n) 0 b)

-- the number d has this sign and is n times 10^up over 10^down, over the smallest power of ten that does
pub record Is (neg : Bool) (n up down : ℕ) (d : Scaled) : Type 0 where
  pub sign : d.negative ≡ (neg && not (eqb n 0))
  pub value : d.whole * 10 ^ down ≡ n * 10 ^ (up + d.tens)
  pub least : 0 < d.tens → d.whole % 10 ≡ 0 → ⊥

lowest-is : (neg : Bool) (n up down : ℕ) (d : Scaled) → d ≡ lowest neg (n * 10 ^ up) down → Is neg n up down d
lowest-is neg n up down d e =
    rw e (record {
      sign = lowest-sign neg (n * 10 ^ up) down ∙ ap (λ (x : Bool). neg && not x) (raised-zero n up);
      value = lowest-same neg (n * 10 ^ up) down ∙ sym (ten-sum n up (lowest neg (n * 10 ^ up) down).tens);
      least = lowest-least neg (n * 10 ^ up) down;
    })

made-is : (neg : Bool) (i f : List ℕ) (d : Scaled) → given d ≡ made neg i f → Is neg (value_on 10 0 (i ++ f)) 0 (length f) d
unfolding made
made-is neg i f d q =
    let n = value_on 10 0 (i ++ f) in
    let h = held d (leb 1 (length i) && leb (length i + length f) most_digits && leb (length f) most_after) (given (lowest neg n (length f))) q in
    let e : d ≡ lowest neg n (length f) = cc h.1 in
    lowest-is neg n 0 (length f) d (e ∙ ap (λ (x : ℕ). lowest neg x (length f)) (sym (ten-none n)))

pub moved-turn : (b neg : Bool) (n t k : ℕ) (d : Scaled) → d ≡ cond b (lowest neg n (t + k)) (lowest neg (n * 10 ^ k) t) → Is neg n (cond b 0 k) (t + cond b k 0) d
moved-turn true neg n t k d e = lowest-is neg n 0 (t + k) d (e ∙ ap (λ (x : ℕ). lowest neg x (t + k)) (sym (ten-none n)))
moved-turn false neg n t k d e = let z : t + 0 ≡ t = omega arith in rw z (lowest-is neg n k t d e)

moved-is : (x : List ℕ) (neg : Bool) (i f : List ℕ) (d : Scaled) → given d ≡ moved_decimal x neg i f
    → Is neg (value_on 10 0 (i ++ f)) (cond (minus x) 0 (exponent_size x)) (length f + cond (minus x) (exponent_size x) 0) d
unfolding moved_decimal judged_decimal point_moved
moved-is x neg i f d q =
    let n = value_on 10 0 (i ++ f) in
    let e = point_moved neg n (length f) x in
    let h = held d (leb 1 (length i) && is_exponent x) (judged_decimal e) q in
    let g = held d (leb e.whole most_whole && leb e.tens most_after) (given e) h.1 in
    let y : d ≡ e = cc g.1 in
    moved-turn (minus x) neg n (length f) (exponent_size x) d y

-- a sign, digits and a point: whatever is made of the digits before the point and after it
pointed-is : (how : List ℕ → List ℕ → Answer Scaled) (i r : List ℕ) (neg : Bool) (up down : ℕ) (d : Scaled)
    → ((f : List ℕ) → given d ≡ how i f → Is neg (value_on 10 0 (i ++ f)) up (length f + down) d) → given d ≡ pointed how i r → Is neg (value_on 10 0 (i ++ drop 1 r)) up (length (drop 1 r) + down) d
unfolding pointed
pointed-is how i [] neg up down d g q = g [] q
pointed-is how i (b ∷ f) neg up down d g q = g f (held d (eqb b 46 && all_digits 10 f && leb 1 (length f)) (how i f) q).1

-- where there is no E, all of the run stands before it
all-turn : (t : Bool) (b : ℕ) (s : List ℕ) → (from_e s ≡ [] → mantissa s ≡ s) → cond t (b ∷ s) (from_e s) ≡ [] → cond t [] (b ∷ mantissa s) ≡ b ∷ s
all-turn true b s h e = let z : ◌≡◌ {A = ℕ} 0 1 = cc in absurd (omega arith)
all-turn false b s h e = ap (λ (x : List ℕ). b ∷ x) (h e)

pub mantissa-all : (s : List ℕ) → from_e s ≡ [] → mantissa s ≡ s
unfolding from_e mantissa
mantissa-all [] e = refl
mantissa-all (b ∷ s) e = all-turn (is_e b) b s (mantissa-all s) e

-- no E is a minus
first-turn : (b : ℕ) (s : List ℕ) (t : Bool) → is_e b ≡ t → minus (cond t [] (b ∷ mantissa s)) ≡ minus (b ∷ s)
unfolding minus is_e
first-turn b s true e = sym (ne_eqb b 45 (λ q. minus-e b q e))
first-turn b s false e = refl

pub minus-same : (s : List ℕ) → minus (mantissa s) ≡ minus s
unfolding mantissa
minus-same [] = refl
minus-same (b ∷ s) = first-turn b s (is_e b) refl

-- what is read of a run from its E on
exact-turn : (s r : List ℕ) (d : Scaled) → from_e s ≡ r → given d ≡ with_exponent s r
    → Is (minus (mantissa s)) (digits_number s) (cond (minus (drop 1 r)) 0 (exponent_size (drop 1 r))) (length (digits_after s) + cond (minus (drop 1 r)) (exponent_size (drop 1 r)) 0) d
unfolding with_exponent plain_of signed_by digits_number digits_before digits_after minus exponent_size value_on signs
exact-turn s [] d o q =
    let m = mantissa s in
    let e : plain_of s ≡ plain_of m = ap plain_of (sym (mantissa-all s o)) in
    pointed-is (made (minus m)) (leading (drop (signs m) m)) (trailing (drop (signs m) m)) (minus m) 0 0 d (λ f g. let z : length f + 0 ≡ length f = omega arith in rw z (made-is (minus m) (leading (drop (signs m) m)) f d g)) (q ∙ e)
exact-turn s (b ∷ x) d o q =
    let m = mantissa s in
    pointed-is (moved_decimal x (minus m)) (leading (drop (signs m) m)) (trailing (drop (signs m) m)) (minus m) (cond (minus x) 0 (exponent_size x)) (cond (minus x) (exponent_size x) 0) d
    (λ f g. moved-is x (minus m) (leading (drop (signs m) m)) f d g) q

-- "The meaning is the exact decimal.": of every run that is read
pub decimal-exact : (s : List ℕ) (d : Scaled) → given d ≡ decimal_of s → Exact s d
unfolding decimal_of exponent_bytes tens_up tens_down below_zero
decimal-exact s d q =
    let h = exact-turn s (from_e s) d refl q in
    record { sign = h.sign ∙ ap (λ (x : Bool). x && not (eqb (digits_number s) 0)) (minus-same s); value = h.value; least = h.least }
