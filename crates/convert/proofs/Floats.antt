-- A whole number of at most 2^53 in size is a binary64.
use Prim.Native.Nat.{◌≤◌, ◌^◌}
use lib.Dec.{T, le→leb, lt→ltb}
use lib.IntN.{ℤ, pos, negsuc, nat_abs}
use lib.Ieee.{in_float, binary64}

pub in-float : (z : ℤ) → nat_abs z ≤ 2 ^ 53 → T (in_float binary64 z)
unfolding in_float
in-float (pos n) h = le→leb n (2 ^ 53) h
in-float (negsuc n) h = lt→ltb n (2 ^ 53) h
