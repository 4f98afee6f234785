-- A power of ten: the code's branches as laws, which `search wholes` applies.
use mathlib.Core.Path.{◌≡◌, ap, ◌∙◌}
use mathlib.Core.Bool.{Bool}
use Prim.Native.Nat.{ℕ, ◌*◌, ◌^◌, ◌≤◌, ◌<◌}
use native.Mathlib.Omega.{arith}
use borrow.Author.Rules.{rules}
use lib.IntN.{ℤ}
use mir.Syntax.{w64}
use mir.Val.{Fits}
use Rattle.number.specs.Signed.{signed_of}
use Rattle.number.proofs.Signs.{under-most}
use Rattle.convert.proofs.Limits.{ten-product}

-- ---- n times r, a power of ten: y is what the machine reads back of z
module _ (n t r : ℕ) (e : r ≡ 10 ^ t) where
  pub times-small : n ≤ 9999999999 → t ≤ 6 → n * r < 2 ^ 63
  times-small h k = ten-product n t r h k e

  pub times-fits : n ≤ 9999999999 → t ≤ 6 → Fits w64 (n * r)
  times-fits h k = record { fits = omega (arith, times-small h k) }

  pub times-is : (b : Bool) (y z : ℤ) → z ≡ signed_of b (n * r) → y ≡ z → y ≡ signed_of b (n * 10 ^ t)
  times-is b y z p q = q ∙ p ∙ ap (λ (m : ℕ). signed_of b (n * m)) e

pub ruleset wholes = (under-most, times-small, times-fits, times-is, rules)
