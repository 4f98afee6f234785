-- Powers of ten: a number times one, over one, and the zeros that are dropped and moved over.
use Prim.Native.Nat.{ℕ, zero, suc, ◌+◌, ◌*◌, ◌-◌, ◌%◌, ◌^◌, ◌<◌, ◌≤◌}
use native.Mathlib.Nat.{pow-zero, pow-suc, mul-one, mul_assoc, mul_right_comm, mul-mod_left, mul-div_cancel, one-le-pow, le-mul_of_pos_right}
use native.Mathlib.Omega.{arith}
use mathlib.Core.Path.{◌≡◌, sym, ◌∙◌, ap}
use mathlib.Core.Bool.{Bool}
use borrow.Author.Tests.{eq-eqb}
use Rattle.number.specs.Decimal.{lowest}

pub ten-more : (m p : ℕ) → m * 10 ^ suc p ≡ m * 10 * 10 ^ p
ten-more m p = ap (λ (x : ℕ). m * x) (pow-suc 10 p) ∙ sym (mul_assoc m (10 ^ p) 10) ∙ mul_right_comm m (10 ^ p) 10

pub ten-last : (m p : ℕ) → m * 10 ^ suc p ≡ m * 10 ^ p * 10
ten-last m p = ap (λ (x : ℕ). m * x) (pow-suc 10 p) ∙ sym (mul_assoc m (10 ^ p) 10)

pub ten-none : (m : ℕ) → m * 10 ^ 0 ≡ m
ten-none m = ap (λ (x : ℕ). m * x) (pow-zero 10) ∙ mul-one m

pub ten-grows : (m p : ℕ) → m ≤ m * 10 ^ p
ten-grows m p = let z : 0 < 10 = omega arith in le-mul_of_pos_right m (one-le-pow p 10 z)

pub ten-sum : (n p k : ℕ) → n * 10 ^ (p + k) ≡ n * 10 ^ p * 10 ^ k
ten-sum n p zero = let e : p + 0 ≡ p = omega arith in rw e (sym (ten-none (n * 10 ^ p)))
ten-sum n p (suc k) =
    let e : p + suc k ≡ suc (p + k) = omega arith in
    rw e (ten-last n (p + k) ∙ ap (λ (x : ℕ). x * 10) (ten-sum n p k) ∙ sym (ten-last (n * 10 ^ p) k))

-- zeros that are dropped and zeros that are moved over
pub lowest-drop : (neg : Bool) (n t : ℕ) → lowest neg (n * 10) (suc t) ≡ lowest neg n t
unfolding lowest
lowest-drop neg n t =
    let z : 0 < 10 = omega arith in
    rw (eq-eqb (n * 10 % 10) 0 (mul-mod_left n 10), mul-div_cancel n z)

pub lowest-up : (neg : Bool) (m t p : ℕ) → t ≤ p → lowest neg (m * 10 ^ (p - t)) 0 ≡ lowest neg (m * 10 ^ p) t
lowest-up neg m zero p h = let e : p - 0 ≡ p = omega arith in rw e
lowest-up neg m (suc t) zero h = absurd (omega arith)
lowest-up neg m (suc t) (suc p) h =
    let e : suc p - suc t ≡ p - t = omega arith in
    rw e (lowest-up neg m t p (omega arith) ∙ sym (lowest-drop neg (m * 10 ^ p) t) ∙ ap (λ (x : ℕ). lowest neg x (suc t)) (sym (ten-last m p)))

pub lowest-down : (neg : Bool) (m t p : ℕ) → p < t → lowest neg m (t - p) ≡ lowest neg (m * 10 ^ p) t
lowest-down neg m t zero h = let e : t - 0 ≡ t = omega arith in rw (e, ten-none m)
lowest-down neg m zero (suc p) h = absurd (omega arith)
lowest-down neg m (suc t) (suc p) h =
    let e : suc t - suc p ≡ t - p = omega arith in
    rw e (lowest-down neg m t p (omega arith) ∙ sym (lowest-drop neg (m * 10 ^ p) t) ∙ ap (λ (x : ℕ). lowest neg x (suc t)) (sym (ten-last m p)))
