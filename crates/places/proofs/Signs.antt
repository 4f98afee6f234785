-- Numbers with a sign compared by their sizes.
use Prim.Native.Nat.{ℕ, zero, suc, ◌*◌, ◌^◌, ◌<◌, ◌≤◌}
use native.Mathlib.Nat.{one-le-pow, mul-le-mul_right, zero-mul}
use native.Mathlib.Omega.{arith}
use mathlib.Core.Path.{◌≡◌, refl, sym, ◌∙◌}
use mathlib.Core.Bool.{Bool, true, false, ◌&&◌}
use borrow.Author.Tests.{ne_eqb}
use lib.Dec.{leb, eqb, lit<, leb-zero, leb-suc-zero, leb-suc-suc, eqb-suc-zero}
use lib.IntN.{ℤ, pos, negsuc, neg_ℤ, ◌*ℤ◌, nat_abs}
use lib.Signed.{lt_z, le_z}
use Rattle.cell.proofs.Types.{clash, not-below}
use Rattle.number.specs.Signed.{signed_of}
use Rattle.convert.proofs.Rounds.{neg-pos}

pub ten-some : (t : ℕ) → 0 < 10 ^ t
ten-some t = omega (arith, one-le-pow t 10 (lit< tt))

-- both below zero, the first, the second
le-neg : (a b : ℕ) → le_z (neg_ℤ (pos a)) (neg_ℤ (pos b)) ≡ leb b a
le-neg zero zero = refl
le-neg zero (suc b) = sym (leb-suc-zero b)
le-neg (suc a) zero = sym (leb-zero (suc a))
le-neg (suc a) (suc b) = sym (leb-suc-suc b a)

le-apart : (a b : ℕ) → le_z (neg_ℤ (pos a)) (pos b) ≡ true
le-apart zero b = leb-zero b
le-apart (suc a) b = refl

le-back : (a b : ℕ) → le_z (pos a) (neg_ℤ (pos b)) ≡ (eqb b 0 && eqb a 0)
le-back zero zero = refl
le-back (suc a) zero = leb-suc-zero a ∙ sym (eqb-suc-zero a)
le-back a (suc b) = rw (eqb-suc-zero b)

-- a product is 0 where its left is, if its right is not
nought : (a p : ℕ) → 0 < p → eqb (a * p) 0 ≡ eqb a 0
nought zero p h = rw zero-mul
nought (suc a) p h =
    let l : 1 * p ≤ suc a * p = mul-le-mul_right {m = 1} {n = suc a} p (omega arith) in
    ne_eqb (suc a * p) 0 (λ e. omega arith) ∙ sym (eqb-suc-zero a)

-- ---- a decimal, w over 10^t with a sign, and a fraction, z over d: whether the first is at most the second, and whether it is at least that
abbrev pub under : Bool → ℕ → ℕ → ℤ → ℕ → Bool
under negative w t z d = le_z (signed_of negative w *ℤ pos d) (z *ℤ pos (10 ^ t))

abbrev pub over : Bool → ℕ → ℕ → ℤ → ℕ → Bool
over negative w t z d = le_z (z *ℤ pos (10 ^ t)) (signed_of negative w *ℤ pos d)

module _ (w t d : ℕ) where
  pub both_negative : (z : ℤ) → lt_z z (pos 0) ≡ true → (leb (nat_abs z * 10 ^ t) (w * d) ≡ under true w t z d) × (leb (w * d) (nat_abs z * 10 ^ t) ≡ over true w t z d)
  both_negative (pos k) h = not-below k h
  both_negative (negsuc k) h = (rw (neg-pos w d, le-neg (w * d) (suc k * 10 ^ t)), rw (neg-pos w d, le-neg (suc k * 10 ^ t) (w * d)))

  pub fraction-negative : (z : ℤ) → lt_z z (pos 0) ≡ true → (false ≡ under false w t z d) × (true ≡ over false w t z d)
  fraction-negative (pos k) h = not-below k h
  fraction-negative (negsuc k) h = (rw (le-back (w * d) (suc k * 10 ^ t), nought (suc k) (10 ^ t) (ten-some t), eqb-suc-zero k), rw (le-apart (suc k * 10 ^ t) (w * d)))

  pub decimal-negative : (z : ℤ) → lt_z z (pos 0) ≡ false → 0 < d → (true ≡ under true w t z d) × ((eqb w 0 && eqb (nat_abs z) 0) ≡ over true w t z d)
  decimal-negative (pos k) h p = (rw (neg-pos w d, le-apart (w * d) (k * 10 ^ t)), rw (neg-pos w d, le-back (k * 10 ^ t) (w * d), nought w d p, nought k (10 ^ t) (ten-some t)))
  decimal-negative (negsuc k) h p = clash h

  pub none-negative : (z : ℤ) → lt_z z (pos 0) ≡ false → (leb (w * d) (nat_abs z * 10 ^ t) ≡ under false w t z d) × (leb (nat_abs z * 10 ^ t) (w * d) ≡ over false w t z d)
  none-negative (pos k) h = (refl, refl)
  none-negative (negsuc k) h = clash h
