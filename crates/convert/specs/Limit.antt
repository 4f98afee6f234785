-- Limits are exact decimals.
use Rattle.std.specs.Prelude.{Bool, ◌&&◌, ◌*◌, ◌^◌, leb, ℤ, pos, ◌*ℤ◌}
use Rattle.std.specs.Int.Signed.{lt_z, le_z}
use Rattle.number.specs.Decimal.{Scaled}
use Rattle.number.specs.Signed.{signed_of}

-- A decimal that a text can write: "1 to 10 digits in all, .. at most 6 digits after it".
unfoldable pub formed : Scaled → Bool
formed d = leb d.whole 9999999999 && leb d.tens 6

-- A decimal is at most another. (One that no text can write is at most none, and none is at most it.)
unfoldable pub at_most : Scaled → Scaled → Bool
at_most a b =
    (formed a && formed b)
    && le_z (signed_of a.negative (a.whole * 10 ^ b.tens)) (signed_of b.negative (b.whole * 10 ^ a.tens))

-- "The asked value must lie in LowerLimit to UpperLimit, ends included."
abbrev pub within_limits : Scaled → Scaled → Scaled → Bool
within_limits lower upper asked = at_most lower asked && at_most asked upper

-- "Test the value that the stored number means, as its exact fraction": a decimal is at most the fraction n/d, whole·d ≤ n·10^tens.
-- (A divisor that is not above 0, and a decimal that no text can write, compare with nothing.)
unfoldable pub at_most_fraction : Scaled → ℤ → ℤ → Bool
at_most_fraction a n d = (lt_z (pos 0) d && formed a) && le_z (signed_of a.negative a.whole *ℤ d) (n *ℤ pos (10 ^ a.tens))

-- The fraction n/d is at most a decimal: n·10^tens ≤ whole·d.
unfoldable pub fraction_at_most : ℤ → ℤ → Scaled → Bool
fraction_at_most n d a = (lt_z (pos 0) d && formed a) && le_z (n *ℤ pos (10 ^ a.tens)) (signed_of a.negative a.whole *ℤ d)
