-- Decimals of the form that a text can write: their bounds, and what they are times a power of ten.
use mathlib.Core.Path.{◌≡◌, ap, ◌∙◌}
use mathlib.Core.Bool.{true}
use Prim.Native.Nat.{ℕ, ◌*◌, ◌^◌, ◌≤◌, ◌<◌}
use native.Mathlib.Nat.{pow-le-pow_right, mul-le-mul}
use native.Mathlib.Omega.{arith}
use borrow.Author.Tests.{leb-true}
use lib.Dec.{leb, lit<}
use lib.IntN.{pos}
use mir.Syntax.{w64}
use mir.Val.{SFits, to_z}
use Rattle.number.specs.Decimal.{Scaled, Form}
use Rattle.cell.proofs.Signed.{Is, is-cast-le}
use Rattle.convert.specs.Limit.{formed}
use Rattle.convert.proofs.Wholes.{left-true, right-true}

-- the test on a decimal's form as facts
pub formed-facts : (d : Scaled) → formed d ≡ true → Form d
unfolding formed
formed-facts d h =
    record {
      whole_most = leb-true d.whole 9999999999 (left-true (leb d.whole 9999999999) (leb d.tens 6) h);
      tens_most = leb-true d.tens 6 (right-true (leb d.whole 9999999999) (leb d.tens 6) h);
    }

pub ten-le : (t : ℕ) → t ≤ 6 → 10 ^ t ≤ 1000000
ten-le t h = pow-le-pow_right (lit< tt) {j = 6} h

-- ten digits times a power of ten fit 63 bits
pub ten-product : (n t r : ℕ) → n ≤ 9999999999 → t ≤ 6 → r ≡ 10 ^ t → n * r < 2 ^ 63
ten-product n t r h k e = let l : r ≤ 1000000 = omega (arith, ten-le t k) in omega (arith, mul-le-mul h l)

-- r is 10^t, as the code has it
pub ten-is : (t r : ℕ) → r ≡ 10 ^ t → t ≤ 6 → Is (to_z w64 r) (pos (10 ^ t)) 1000000
ten-is t r e h = let i = is-cast-le (10 ^ t) (ten-le t h) tt in record { same = ap (to_z w64) e ∙ i.same; size = i.size }

pub ten-fits : (t r : ℕ) → r ≡ 10 ^ t → t ≤ 6 → SFits w64 (pos r)
ten-fits t r e h = record { sfits = omega (arith, e, ten-le t h) }
