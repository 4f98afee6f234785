-- Masks: the shift is below the width; what is put under a mask is read back; no other bit changes. The laws on AND and OR that the library lacks.
use mathlib.Core.Path.{◌≡◌, refl, sym, ap, ap₂, ◌∙◌}
use mathlib.Core.Bool.{true, false}
use Prim.Native.Nat.{ℕ, zero, suc, ◌+◌, ◌*◌, ◌-◌, ◌/◌, ◌%◌, ◌^◌, ◌≤◌, ◌<◌, min, max}
use native.Mathlib.Nat.{pow-suc, mod-eq_of_lt, mul-le-mul_right, div-mul-le_self, div-lt_iff_lt-mul}
use native.Mathlib.Omega.{arith}
use lib.Arith.{bin_ind}
use lib.Bits.{bit_and, bit_or, and_step, or_step, and_zero_r, or_zero_r, and_comm, and_le_l, and_le_r, and_self}
use lib.Count.{count_trailing_zeros, under}
use lib.Pow.{shl-shr, shr_le, pow_pos}
use borrow.Author.Tests.{eqb-true, ne_eqb}
use Rattle.cell.specs.Mask.{lowest, masked, shifted, fits_mask, outside, inserted}

-- ---- the shift
below : (k n r : ℕ) → n % 2 ≡ r → (n % 2 ≡ 0 → count_trailing_zeros k (n / 2) < k) → under r (count_trailing_zeros k (n / 2)) < suc k
below k n zero e f = let h = f e in omega arith
below k n (suc r) e f = omega arith

low-lt : (k n : ℕ) → 0 < n → n < 2 ^ k → count_trailing_zeros k n < k
unfolding count_trailing_zeros
low-lt zero n p h = omega arith
low-lt (suc k) n p h =
    below k n (n % 2) refl (λ e. low-lt k (n / 2) (omega arith) (omega (arith, rw pow-suc at h)))

pub lowest-lt : (mask : ℕ) → 0 < mask → mask < 2 ^ 64 → lowest mask < 64
lowest-lt mask p h = low-lt 64 mask p h

-- ---- AND and OR, digit by digit
join : {r s c d : ℕ} → r ≡ s → c ≡ d → r * 2 + c ≡ s * 2 + d
join p q = ap₂ (λ (x y : ℕ). x * 2 + y) p q

or-half : (a b : ℕ) → bit_or a b / 2 ≡ bit_or (a / 2) (b / 2)
or-half a b = omega (arith, or_step a b)

or-low : (a b : ℕ) → bit_or a b % 2 ≡ max (a % 2) (b % 2)
or-low a b = omega (arith, or_step a b)

and-half : (a b : ℕ) → bit_and a b / 2 ≡ bit_and (a / 2) (b / 2)
and-half a b = omega (arith, and_step a b)

and_low : (a b : ℕ) → bit_and a b % 2 ≡ min (a % 2) (b % 2)
and_low a b = omega (arith, and_step a b)

pub or-and : (a b m : ℕ) → bit_and (bit_or a b) m ≡ bit_or (bit_and a m) (bit_and b m)
or-and a =
    bin_ind (λ (n : ℕ). (b m : ℕ) → bit_and (bit_or n b) m ≡ bit_or (bit_and n m) (bit_and b m))
    (λ b m. refl)
    (λ n ih b m.
    and_step (bit_or n b) m
    ∙ join (ap (λ (x : ℕ). bit_and x (m / 2)) (or-half n b) ∙ ih (b / 2) (m / 2) ∙ sym (ap₂ bit_or (and-half n m) (and-half b m)))
    (ap (λ (x : ℕ). min x (m % 2)) (or-low n b) ∙ dist (n % 2) (b % 2) (m % 2) ∙ sym (ap₂ max (and_low n m) (and_low b m)))
    ∙ sym (or_step (bit_and n m) (bit_and b m)))
    a
  where
    dist : (x y z : ℕ) → min (max x y) z ≡ max (min x z) (min y z)
    dist x y z = omega arith

pub and_assoc : (a b m : ℕ) → bit_and (bit_and a b) m ≡ bit_and a (bit_and b m)
and_assoc a =
    bin_ind (λ (n : ℕ). (b m : ℕ) → bit_and (bit_and n b) m ≡ bit_and n (bit_and b m))
    (λ b m. refl)
    (λ n ih b m.
    and_step (bit_and n b) m
    ∙ join (ap (λ (x : ℕ). bit_and x (m / 2)) (and-half n b) ∙ ih (b / 2) (m / 2) ∙ sym (ap (bit_and (n / 2)) (and-half b m)))
    (ap (λ (x : ℕ). min x (m % 2)) (and_low n b) ∙ mins (n % 2) (b % 2) (m % 2) ∙ sym (ap (min (n % 2)) (and_low b m)))
    ∙ sym (and_step n (bit_and b m)))
    a
  where
    mins : (x y z : ℕ) → min (min x y) z ≡ min x (min y z)
    mins x y z = omega arith

pub or_assoc : (a b c : ℕ) → bit_or (bit_or a b) c ≡ bit_or a (bit_or b c)
or_assoc a =
    bin_ind (λ (n : ℕ). (b c : ℕ) → bit_or (bit_or n b) c ≡ bit_or n (bit_or b c))
    (λ b c. refl)
    (λ n ih b c.
    or_step (bit_or n b) c
    ∙ join (ap (λ (x : ℕ). bit_or x (c / 2)) (or-half n b) ∙ ih (b / 2) (c / 2) ∙ sym (ap (bit_or (n / 2)) (or-half b c)))
    (ap (λ (x : ℕ). max x (c % 2)) (or-low n b) ∙ maxs (n % 2) (b % 2) (c % 2) ∙ sym (ap (max (n % 2)) (or-low b c)))
    ∙ sym (or_step n (bit_or b c)))
    a
  where
    maxs : (x y z : ℕ) → max (max x y) z ≡ max x (max y z)
    maxs x y z = omega arith

-- a number and its complement in k bits have no bit in common
pub and-not : (k m : ℕ) → m < 2 ^ k → bit_and (2 ^ k - 1 - m) m ≡ 0
and-not zero m h = let e : m ≡ 0 = omega arith in rw e
and-not (suc k) m h =
    let g = rw pow-suc at h in
    let d : (2 ^ suc k - 1 - m) / 2 ≡ 2 ^ k - 1 - m / 2 = omega (arith, pow-suc 2 k) in
    let l : min ((2 ^ suc k - 1 - m) % 2) (m % 2) ≡ 0 = omega (arith, pow-suc 2 k) in
    and_step (2 ^ suc k - 1 - m) m ∙ join (ap (λ (x : ℕ). bit_and x (m / 2)) d ∙ and-not k (m / 2) (omega arith)) l

-- a raw number under a mask is at most the stored number
pub masked-le : (stored mask : ℕ) → masked stored mask ≤ stored
masked-le stored mask = omega (arith, shr_le (bit_and stored mask) (lowest mask), and_le_l stored mask)

-- ---- the code's shifts lose no bit

pub shift-exact : (raw mask : ℕ) → raw ≤ mask / 2 ^ lowest mask → mask < 2 ^ 64 → shifted raw mask % 2 ^ 64 ≡ shifted raw mask
shift-exact raw mask l h =
    mod-eq_of_lt (omega (arith, mul-le-mul_right (2 ^ lowest mask) l, div-mul-le_self mask (2 ^ lowest mask)))

-- a number above the shifted mask has a bit outside the mask
pub too_large : (raw mask : ℕ) → mask / 2 ^ lowest mask < raw → false ≡ fits_mask raw mask
too_large raw mask l =
    let k : mask < shifted raw mask = (div-lt_iff_lt-mul {k = 2 ^ lowest mask} (pow_pos (lowest mask))).0 l in
    sym (ne_eqb (bit_and (shifted raw mask) mask) (shifted raw mask) (λ e. omega (arith, and_le_r (shifted raw mask) mask)))

-- ---- what was put under the mask is read back
pub masked-inserted : (stored mask raw : ℕ) → mask < 2 ^ 64 → fits_mask raw mask ≡ true → masked (inserted stored mask raw) mask ≡ raw
masked-inserted stored mask raw h f =
    let no = outside mask in
    let s = shifted raw mask in
    ap (λ (n : ℕ). n / 2 ^ lowest mask)
    (or-and (bit_and stored no) s mask
    ∙ ap₂ bit_or (and_assoc stored no mask ∙ ap (bit_and stored) (and-not 64 mask h) ∙ and_zero_r stored) (eqb-true (bit_and s mask) s f))
    ∙ shl-shr raw (lowest mask)

-- ---- and no other bit changes
pub kept : (stored mask raw : ℕ) → mask < 2 ^ 64 → fits_mask raw mask ≡ true
    → bit_and (inserted stored mask raw) (outside mask) ≡ bit_and stored (outside mask)
kept stored mask raw h f =
    let no = outside mask in
    let s = shifted raw mask in
    or-and (bit_and stored no) s no
    ∙ ap₂ bit_or
    (and_assoc stored no no ∙ ap (bit_and stored) (and_self no))
    (ap (λ (n : ℕ). bit_and n no) (sym (eqb-true (bit_and s mask) s f)) ∙ and_assoc s mask no
    ∙ ap (bit_and s) (and_comm mask no ∙ and-not 64 mask h) ∙ and_zero_r s)
    ∙ or_zero_r (bit_and stored no)
