-- `fraction::fraction::quotient_of` meets its contract. Assumes nothing.
use mathlib.Core.Path.{sym, subst}
use Prim.Native.Nat.{◌≤◌, ◌^◌}
use lib.Dec.{T}
use lib.IntN.{ℤ, nat_abs}
use lib.Ieee.{in_float, binary64}
use Rattle.cell.proofs.Signed.{back, is_read}
use Rattle.convert.proofs.Floats.{in-float}
use Rattle.fraction.proofs.fraction.quotient_of.Goals as goal

exact : (z : ℤ) → nat_abs z ≤ 2 ^ 53 → T (in_float binary64 (back z))
exact z h = subst (λ (y : ℤ). T (in_float binary64 y)) (sym (is_read z h tt).same) (in-float z h)

pub int_to_float-result : goal.int_to_float-result
int_to_float-result c = exact c.args.n c.requires.0

pub int_to_float-result-2 : goal.int_to_float-result-2
int_to_float-result-2 c = exact c.args.d c.requires.1
