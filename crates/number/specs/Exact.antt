-- What a decimal run writes, piece by piece, and that a number is exactly that: "The meaning is the exact decimal."
use Rattle.std.specs.Prelude.{ℕ, ◌+◌, ◌*◌, ◌%◌, ◌^◌, ◌≤◌, ◌<◌, ◌≡◌, List, [], ◌∷◌, ◌++◌, Bool, true, cond, not, ◌&&◌, length, drop, eqb}
use Rattle.number.specs.Digits.{leading, trailing, value_on, all_digits}
use Rattle.number.specs.Decimal.{Scaled, signs, minus, is_e, mantissa, from_e, exponent_size}

-- the digits before the point and those after it, of what stands before the exponent
unfoldable pub digits_before : List ℕ → List ℕ
digits_before s = leading (drop (signs (mantissa s)) (mantissa s))

unfoldable pub digits_after : List ℕ → List ℕ
digits_after s = drop 1 (trailing (drop (signs (mantissa s)) (mantissa s)))

-- all its digits as one whole number, and the exponent's bytes (none where there is no E)
unfoldable pub digits_number : List ℕ → ℕ
digits_number s = value_on 10 0 (digits_before s ++ digits_after s)

unfoldable pub exponent_bytes : List ℕ → List ℕ
exponent_bytes s = drop 1 (from_e s)

-- by how many powers of ten the number is greater than its digits, and by how many it is smaller
unfoldable pub tens_up : List ℕ → ℕ
tens_up s = cond (minus (exponent_bytes s)) 0 (exponent_size (exponent_bytes s))

unfoldable pub tens_down : List ℕ → ℕ
tens_down s = length (digits_after s) + cond (minus (exponent_bytes s)) (exponent_size (exponent_bytes s)) 0

-- whether it is below zero: a minus stands first, and 0 has no sign
unfoldable pub below_zero : List ℕ → Bool
below_zero s = minus s && not (eqb (digits_number s) 0)

-- the number d is exactly what the run s writes
pub record Exact (s : List ℕ) (d : Scaled) : Type 0 where
  pub sign : d.negative ≡ below_zero s
  -- whole / 10^tens is the digits' number times 10^tensUp / 10^tensDown
  pub value : d.whole * 10 ^ tens_down s ≡ digits_number s * 10 ^ (tens_up s + d.tens)
  -- "a whole number divided by the smallest power of ten that does"
  pub least : 0 < d.tens → d.whole % 10 ≡ 0 → ⊥

-- ---- what a run with an exponent looks like

-- "an optional sign", `+` or `-`
pub data Sign : List ℕ → Type 0 where
  no_sign : Sign []
  plus_sign : Sign (43 ∷ [])
  minus_sign : Sign (45 ∷ [])

-- "an optional point with digits on both sides": what stands after the digits before it
pub data PointDigits : List ℕ → Type 0 where
  no_point : PointDigits []
  point : (f : List ℕ) → all_digits 10 f ≡ true → 1 ≤ length f → PointDigits (46 ∷ f)

-- "Read an optional E or e, an optional sign and one or two digits.": after a sign, digits and a point among them
pub record ExponentForm (s : List ℕ) : Type 0 where
  pub sign : List ℕ
  pub digits : List ℕ
  pub after : List ℕ
  pub e : ℕ
  pub power_sign : List ℕ
  pub power : List ℕ
  pub is : s ≡ (sign ++ (digits ++ after)) ++ (e ∷ power_sign ++ power)
  pub is_sign : Sign sign
  pub are_digits : all_digits 10 digits ≡ true
  pub some_digits : 1 ≤ length digits
  pub is_after : PointDigits after
  pub has_e : is_e e ≡ true
  pub is_power_sign : Sign power_sign
  pub is_power : all_digits 10 power ≡ true
  pub one_or_two : (1 ≤ length power) × (length power ≤ 2)

-- two runs write the same number, as `1200` and `1.2E3`
pub record SameNumber (s r : List ℕ) : Type 0 where
  pub sign : below_zero s ≡ below_zero r
  pub value : digits_number s * 10 ^ (tens_up s + tens_down r) ≡ digits_number r * 10 ^ (tens_up r + tens_down s)
