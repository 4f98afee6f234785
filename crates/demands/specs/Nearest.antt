-- What a physical write asks for, and the raw number that is nearest to it.
use Rattle.std.specs.Prelude.{ℕ, ◌*◌, ◌%◌, ◌^◌, ◌≤◌, ◌<◌, ◌≡◌, List, true, false, ℤ, pos, nat_abs, ◌+ℤ◌, ◌-ℤ◌, ◌*ℤ◌}
use Rattle.number.specs.Answer.{given}
use Rattle.number.specs.Decimal.{Scaled}
use Rattle.number.specs.Exact.{Exact}
use Rattle.cell.specs.Raw.{fits_raw}
use Rattle.cell.specs.declared.kind.Shape.{Shape}
use Rattle.convert.specs.declared.method.Coefficients.{Coefficients}
use Rattle.number.specs.Signed.{signed_of}
use Rattle.convert.specs.declared.fraction.Physical.{Physical}
use Rattle.convert.specs.Fraction.{fraction, fraction_of}
use Rattle.convert.specs.Limit.{within_limits, at_most_fraction, fraction_at_most}
use Rattle.convert.specs.Asked.{asked_of, rounded_raw}
use Rattle.convert.specs.Edition.{edition_one, edition_two, halves_of}
use Rattle.convert.specs.Told.{held}

-- "INT = (aP²+bP+c)/(dP²+eP+f); a and d must be 0", at the asked value P, a whole number over a power of ten: the quotient is dividend_at / divisor_at
abbrev pub dividend_at : Coefficients → Scaled → ℤ
dividend_at k p = k.b *ℤ signed_of p.negative p.whole +ℤ k.c *ℤ pos (10 ^ p.tens)

abbrev pub divisor_at : Coefficients → Scaled → ℤ
divisor_at k p = k.e *ℤ signed_of p.negative p.whole +ℤ k.f *ℤ pos (10 ^ p.tens)

-- twice the distance of z from the quotient, times the divisor: at most the divisor where z is at most half a step off
abbrev pub twice_off : Coefficients → Scaled → ℤ → ℕ
twice_off k p z = 2 * nat_abs (z *ℤ divisor_at k p -ℤ dividend_at k p)

-- "A limit is for what gets stored. .. Test the value that the stored number means, as its exact fraction, as well as the asked one.": the value that a line
-- holds is a number (state 1), and the exact fraction lies from the lower to the upper limit, ends included
pub record InLimits (lower upper : Scaled) (p : Physical) : Type 0 where
  pub is_number : p.state ≡ 1
  pub from_lower : at_most_fraction lower p.first p.second ≡ true
  pub to_upper : fraction_at_most p.first p.second upper ≡ true

-- z is what a write of the text s is to store, by an edition's rule on halves, by the limits and the coefficients of an element of a data type, under its mask
pub record Nearest (edition : ℕ) (lower upper : Scaled) (k : Coefficients) (t : Shape) (mask : ℕ) (s : List ℕ) (z : ℤ) : Type 0 where
  -- "the asked value has a whole part over ten-power of size at most 10^9", and lies "in LowerLimit to UpperLimit, ends included"
  pub asked : Scaled
  pub form : asked_of s ≡ given asked
  -- "The meaning is the exact decimal.": of the text, with an exponent or without
  pub exact : Exact s asked
  pub within : within_limits lower upper asked ≡ true
  -- "INT is the exact quotient, rounded to the nearest whole number": there is one, and z is at most half a step from it
  pub some : divisor_at k asked ≡ pos 0 → ⊥
  pub near : twice_off k asked z ≤ nat_abs (divisor_at k asked)
  -- "Edition 1 stays halves away from zero.": half a step from it, z is the larger in size
  pub away : edition ≡ edition_one → twice_off k asked z ≡ nat_abs (divisor_at k asked) → nat_abs (dividend_at k asked) < nat_abs (z *ℤ divisor_at k asked)
  -- "From description edition 2 the maker's own tool rounds halves to the even neighbour": half a step from it, z is even
  pub even : edition ≡ edition_two → twice_off k asked z ≡ nat_abs (divisor_at k asked) → nat_abs z % 2 ≡ 0
  -- it fits type and mask
  pub fits : fits_raw t mask z ≡ true
  -- what z means, "P = (f·INT − c)/(b − e·INT)", lies within the limits too
  pub means : InLimits lower upper (held (fraction k z))

-- "16 is given first for the asked value in its old place, and for the stored one after 17 and 18.": what lies outside the limits where a write of the text s is 16
pub data OutsideLimits (edition : ℕ) (lower upper : Scaled) (k : Coefficients) (t : Shape) (mask : ℕ) (s : List ℕ) : Type 0 where
  is_asked : (p : Scaled) → asked_of s ≡ given p → within_limits lower upper p ≡ false → OutsideLimits edition lower upper k t mask s
  -- what the rounded number means, "no value at all" too
  is_stored : (z : ℤ) → rounded_raw (halves_of edition) lower upper k t mask s ≡ given z → (InLimits lower upper (held (fraction_of k z)) → ⊥) → OutsideLimits edition lower upper k t mask s
