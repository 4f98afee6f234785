-- "A shown value is a number, a text or nothing."
use Rattle.std.specs.Prelude.{ℕ, ◌^◌, cond, ◌&&◌, leb, ℤ, nat_abs, Float}
use Rattle.std.specs.Float.{binary64}
use Rattle.std.specs.Float.Ieee.{of_int, div}
use Rattle.convert.specs.Fraction.{Value, none, number, text}

pub data Display : Type 0 where
  real : Float → Display
  words : ℕ → ℕ → Display
  nothing : Display

-- "The shown number is one binary64 division of the two whole numbers"
abbrev pub quotient : ℤ → ℤ → Float
quotient n d = div binary64 (of_int binary64 n) (of_int binary64 d)

-- ".. and is given only where both are at most 2^53 in size."
unfoldable pub shown : Value → Display
shown none = nothing
shown (number n d) = cond (leb (nat_abs n) (2 ^ 53) && leb (nat_abs d) (2 ^ 53)) (real (quotient n d)) nothing
shown (text first past) = words first past
