-- A size below 2^63 has either sign.
use Prim.Native.Nat.{ℕ, ◌<◌, ◌≤◌, ◌^◌}
use native.Mathlib.Omega.{arith}
use mathlib.Core.Bool.{Bool, true, false}
use Rattle.number.specs.Signed.{most_signed}

pub under-most : (n : ℕ) (b : Bool) → n < 2 ^ 63 → n ≤ most_signed b
under-most n true h = omega arith
under-most n false h = omega arith
