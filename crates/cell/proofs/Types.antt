-- Types of w bytes, over any width: what the code tests, and there and back.
use mathlib.Core.Path.{◌≡◌, refl, sym, ◌∙◌}
use mathlib.Core.Bool.{Bool, true, false}
use Prim.Native.Nat.{ℕ, zero, suc, ◌-◌, ◌/◌, ◌^◌, ◌≤◌, ◌<◌}
use native.Mathlib.Nat.{pow-le-pow_right}
use native.Mathlib.Omega.{arith}
use borrow.Author.Tests.{ltb-true, lt-ltb, le-ltb}
use lib.Dec.{ltb, leb, lit<}
use lib.IntN.{ℤ, pos, negsuc, neg_ℤ, nat_abs, ◌-ℤ◌}
use lib.Signed.{lt_z}
use Rattle.cell.specs.Sign.{typed, fits_type, bits_of}

pub power_le : (w : ℕ) → w ≤ 4 → 256 ^ w ≤ 4294967296
power_le w h = pow-le-pow_right (lit< tt) {j = 4} h

-- a sign's test, and the two cases that it leaves
pub clash {ℓ} : {X : Type ℓ} → true ≡ false → X
clash e = let z : ◌≡◌ {A = ℕ} 0 1 = cc in absurd (omega arith)

pub not-below : (n : ℕ) {X : Type 0} → ltb n 0 ≡ true → X
not-below n h = let k = ltb-true n 0 h in absurd (omega arith)

pub neg_bits : (w : ℕ) (z : ℤ) → lt_z z (pos 0) ≡ true → 256 ^ w - nat_abs z ≡ bits_of w z
neg_bits w (pos n) h = not-below n h
neg_bits w (negsuc n) h = refl

pub neg-signed : (w : ℕ) (z : ℤ) → lt_z z (pos 0) ≡ true → leb (nat_abs z) (256 ^ w / 2) ≡ fits_type true w z
neg-signed w (pos n) h = not-below n h
neg-signed w (negsuc n) h = refl

pub neg-unsigned : (w : ℕ) (z : ℤ) → lt_z z (pos 0) ≡ true → false ≡ fits_type false w z
neg-unsigned w (pos n) h = not-below n h
neg-unsigned w (negsuc n) h = refl

pub pos-signed : (w : ℕ) (z : ℤ) → lt_z z (pos 0) ≡ false → ltb (nat_abs z) (256 ^ w / 2) ≡ fits_type true w z
pos-signed w (pos n) h = refl
pos-signed w (negsuc n) h = clash h

pub pos-unsigned : (w : ℕ) (z : ℤ) → lt_z z (pos 0) ≡ false → ltb (nat_abs z) (256 ^ w) ≡ fits_type false w z
pos-unsigned w (pos n) h = refl
pos-unsigned w (negsuc n) h = clash h

-- ---- there and back
below : (a b : ℕ) → a < b → pos a -ℤ pos b ≡ neg_ℤ (pos (b - a))
below a zero h = absurd (omega arith)
below a (suc b) h =
    let e : suc b - a ≡ suc (suc b - suc a) = omega arith in
    rw (lt-ltb a (suc b) h, e)

pub typed-bits : (s : Bool) (w : ℕ) (z : ℤ) → fits_type s w z ≡ true → typed s w (bits_of w z) ≡ z
typed-bits false w (pos n) h = refl
typed-bits false w (negsuc n) h = clash (sym h)
typed-bits true w (pos n) h = rw h
typed-bits true w (negsuc n) h =
    let l = ltb-true n (256 ^ w / 2) h in
    let e : 256 ^ w - (256 ^ w - suc n) ≡ suc n = omega arith in
    rw (le-ltb (256 ^ w - suc n) (256 ^ w / 2) (omega arith), below (256 ^ w - suc n) (256 ^ w) (omega arith), e)

-- the number n of the top half, taken down, is some negsuc m with m below the half
pub down : (w n : ℕ) → n < 256 ^ w → pos n -ℤ pos (256 ^ w) ≡ negsuc (256 ^ w - suc n)
down w n h =
    let e : 256 ^ w - n ≡ suc (256 ^ w - suc n) = omega arith in
    below n (256 ^ w) h ∙ rw e

-- a number that fits its type is below the type's range in size, as bits_of asks
pub fits_below : (s : Bool) (w : ℕ) (z : ℤ) → fits_type s w z ≡ true → nat_abs z < 256 ^ w
fits_below false w (pos n) h = ltb-true n (256 ^ w) h
fits_below false w (negsuc n) h = clash (sym h)
fits_below true w (pos n) h = let k = ltb-true n (256 ^ w / 2) h in omega arith
fits_below true w (negsuc n) h = let k = ltb-true n (256 ^ w / 2) h in omega arith
