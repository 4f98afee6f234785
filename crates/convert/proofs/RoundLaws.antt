-- The nearest whole number: the code's branches as laws, which `search rounds` applies.
use mathlib.Core.Path.{◌≡◌, sym, ap, ap₂, ◌∙◌}
use mathlib.Core.Bool.{true, false}
use Prim.Native.Nat.{ℕ, ◌+◌, ◌*◌, ◌/◌, ◌%◌, ◌^◌, ◌<◌}
use native.Mathlib.Nat.{mod-lt, div-le_self}
use native.Mathlib.Omega.{arith}
use borrow.Author.Rules.{rules}
use lib.IntN.{ℤ, pos, nat_abs}
use lib.Signed.{lt_z, le_z}
use mir.Facts.{to_z-of_z}
use mir.Syntax.{w64}
use mir.Val.{Fits, SFits}
use Rattle.cell.proofs.Signed.{back}
use Rattle.number.proofs.Signs.{under-most}
use Rattle.number.specs.Signed.{signed_of}
use Rattle.convert.specs.Round.{Halves, rounded, nearest}
use Rattle.convert.proofs.Wholes.{sized}
use Rattle.convert.proofs.Rounds.{rounded-down, rounded-up, rounded-le, nearest-neg, nearest-pos}

-- ---- sizes
pub twice-fits : (n d : ℕ) → d < 2 ^ 61 → 0 < d → Fits w64 (2 * (n % d))
twice-fits n d h k = record { fits = omega (arith, mod-lt n {m = d} k) }

pub next_fits : (n d : ℕ) → n < 2 ^ 61 → Fits w64 (n / d + 1)
next_fits n d h = record { fits = omega (arith, div-le_self n d) }

-- ---- the size m of a number z, which the machine reads back
pub size_below : (z : ℤ) (m : ℕ) → m ≡ nat_abs (back z) → SFits w64 z → nat_abs z < 2 ^ 61 → m < 2 ^ 61
size_below z m e f h = omega (arith, sized z f.sfits e)

pub size-some : (z : ℤ) (m : ℕ) → m ≡ nat_abs (back z) → SFits w64 z → 0 < nat_abs z → 0 < m
size-some z m e f h = omega (arith, sized z f.sfits e)

-- ---- with signs: r is the rounded size, and y what the machine reads back of z
module _ (up : Halves) (n d : ℤ) (m e r : ℕ) (em : m ≡ nat_abs (back n)) (ee : e ≡ nat_abs (back d)) (er : r ≡ rounded up m e) (fn : SFits w64 n) (fd : SFits w64 d) where
  pub rounded-fits : nat_abs n < 2 ^ 61 → r < 2 ^ 63
  rounded-fits h = omega (arith, er, rounded-le up m e, sized n fn.sfits em)

  size_is : r ≡ rounded up (nat_abs n) (nat_abs d)
  size_is = er ∙ ap₂ (rounded up) (sized n fn.sfits em) (sized d fd.sfits ee)

  pub nearest-below : (y z : ℤ) → lt_z (back n) (pos 0) ≡ true → z ≡ signed_of (le_z (pos 0) (back d)) r → y ≡ z → y ≡ nearest up n d
  nearest-below y z h ez ey =
      ey ∙ ez ∙ (λ i. signed_of (le_z (pos 0) (to_z-of_z fd i)) (size_is i)) ∙ sym (nearest-neg up n d (sym (ap (λ (x : ℤ). lt_z x (pos 0)) (to_z-of_z fn)) ∙ h))

  pub nearest-above : (y z : ℤ) → lt_z (back n) (pos 0) ≡ false → z ≡ signed_of (lt_z (back d) (pos 0)) r → y ≡ z → y ≡ nearest up n d
  nearest-above y z h ez ey =
      ey ∙ ez ∙ (λ i. signed_of (lt_z (to_z-of_z fd i) (pos 0)) (size_is i)) ∙ sym (nearest-pos up n d (sym (ap (λ (x : ℤ). lt_z x (pos 0)) (to_z-of_z fn)) ∙ h))

pub ruleset rounds = (under-most, twice-fits, next_fits, rounded-down, rounded-up, size_below, size-some, rounded-fits, nearest-below, nearest-above, rules)
