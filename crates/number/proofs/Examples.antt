-- Runs on both sides of each rule, and what they write.
use Prim.Native.Nat.{ℕ}
use Prim.Native.Char.{code}
use Prim.Native.String.{String, [] as []ˢ, ◌∷◌ as ◌∷ˢ◌}
use mathlib.Core.Path.{◌≡◌, refl}
use mathlib.Core.List.{List, [], ◌∷◌}
use mathlib.Core.Bool.{true, false}
use Rattle.number.specs.Answer.{Answer, given, refused, in_run}
use Rattle.number.specs.Digits.{digit_of, leading, trailing, value_on, all_digits}
use Rattle.number.specs.Whole.{whole_from, whole_of}
use Rattle.number.specs.Decimal.{Scaled, signs, minus, lowest, made, pointed, is_exponent, exponent_size, point_moved, judged_decimal, moved_decimal, signed_by, plain_of, is_e, mantissa, from_e, with_exponent, decimal_of}

bytes : String → List ℕ
bytes []ˢ = []
bytes (c ∷ˢ s) = code c ∷ bytes s

-- a text, and what reading it answers
data Case (A : Type 0) : Type 0 where
  row : String → Answer A → Case A

answers : {A : Type 0} → (List ℕ → Answer A) → List (Case A) → List (Answer A)
answers read [] = []
answers read (row s a ∷ rows) = read (bytes s) ∷ answers read rows

wanted : {A : Type 0} → List (Case A) → List (Answer A)
wanted [] = []
wanted (row s a ∷ rows) = a ∷ wanted rows

-- whole over 10^tens, above and below zero
plus : ℕ → ℕ → Answer Scaled
plus n t = given (record { negative = false; whole = n; tens = t })

below : ℕ → ℕ → Answer Scaled
below n t = given (record { negative = true; whole = n; tens = t })

decimals : List (Case Scaled)
decimals =
    row "1.50" (plus 15 1)
    ∷ row "100" (plus 100 0)
    ∷ row "0.50" (plus 5 1)
    ∷ row "-40" (below 40 0)
    ∷ row "+5" (plus 5 0)
    ∷ row "-0" (plus 0 0)
    ∷ row "-0.00" (plus 0 0)
    ∷ row "1234567890" (plus 1234567890 0)
    ∷ row "+12345678.90" (plus 123456789 1)
    ∷ row "-0000.000001" (below 1 6)
    ∷ row "12345678901" (refused 2)
    ∷ row "00000000001" (refused 2)
    ∷ row "1234.1234567" (refused 2)
    ∷ row "1.0000000" (refused 2)
    ∷ row ".5" (refused 2)
    ∷ row "5." (refused 2)
    ∷ row "1.2.3" (refused 2)
    ∷ row "0x10" (refused 2)
    ∷ row "+-5" (refused 2)
    ∷ row " 5" (refused 2)
    ∷ row "-" (refused 2)
    ∷ row "" (refused 2)
    ∷ []

decimal-cases : answers decimal_of decimals ≡ wanted decimals
unfolding bytes answers wanted decimals plus below decimal_of pointed made lowest signs minus leading trailing digit_of value_on all_digits signed_by plain_of is_e mantissa from_e with_exponent is_exponent exponent_size point_moved judged_decimal moved_decimal
decimal-cases = refl

-- exponents: the form, the digits that count, the sign of 0
exponents : List (Case Scaled)
exponents =
    row "1.2E3" (plus 1200 0)
    ∷ row "5e-1" (plus 5 1)
    ∷ row "1e9" (plus 1000000000 0)
    ∷ row "9999999999e0" (plus 9999999999 0)
    ∷ row "99999999990e-1" (plus 9999999999 0)
    ∷ row "10e-7" (plus 1 6)
    ∷ row "0.0000001e1" (plus 1 6)
    ∷ row "1234567.891e-3" (plus 1234567891 6)
    ∷ row "00000000000012e0" (plus 12 0)
    ∷ row "1000000000000000000000000000000000000000000000000000000000000000000000000000000000000000000000000000e-99" (plus 1 0)
    ∷ row "-12.50E+01" (below 125 0)
    ∷ row "0e99" (plus 0 0)
    ∷ row "-0E-99" (plus 0 0)
    ∷ row "1234567890.0E0" (plus 1234567890 0)
    ∷ row "1234567890.0" (refused 2)
    ∷ row "1e10" (refused 2)
    ∷ row "1e-7" (refused 2)
    ∷ row "12345678901e-1" (refused 2)
    ∷ row "12345.678912e0" (refused 2)
    ∷ row "123456789.1e2" (refused 2)
    ∷ row "1.E3" (refused 2)
    ∷ row ".5e1" (refused 2)
    ∷ row "1e" (refused 2)
    ∷ row "1e+" (refused 2)
    ∷ row "1e005" (refused 2)
    ∷ row "1e3.0" (refused 2)
    ∷ row "1e3e3" (refused 2)
    ∷ row "--1e3" (refused 2)
    ∷ row "e3" (refused 2)
    ∷ []

exponent-cases : answers decimal_of exponents ≡ wanted exponents
unfolding bytes answers wanted exponents plus below decimal_of pointed made lowest signs minus leading trailing digit_of value_on all_digits signed_by plain_of is_e mantissa from_e with_exponent is_exponent exponent_size point_moved judged_decimal moved_decimal
exponent-cases = refl

-- at most 65535
wholes : List (Case ℕ)
wholes =
    row "0" (given 0)
    ∷ row "65535" (given 65535)
    ∷ row "00000000000000000000065535" (given 65535)
    ∷ row "0x1F" (given 31)
    ∷ row "0x1f" (given 31)
    ∷ row "0x0000ffFF" (given 65535)
    ∷ row "65536" (refused 2)
    ∷ row "0x10000" (refused 2)
    ∷ row "0x00000001F" (refused 2)
    ∷ row "0x" (refused 2)
    ∷ row "0X1F" (refused 2)
    ∷ row "0x1G" (refused 2)
    ∷ row "1F" (refused 2)
    ∷ row "+5" (refused 2)
    ∷ row "-0" (refused 2)
    ∷ row "1.0" (refused 2)
    ∷ row "1e3" (refused 2)
    ∷ row "" (refused 2)
    ∷ []

whole-cases : answers (whole_of 65535) wholes ≡ wanted wholes
unfolding bytes answers wanted wholes whole_of whole_from digit_of value_on all_digits
whole-cases = refl

-- eight hex digits, and the greatest number of 64 bits and one more
wide : List (Case ℕ)
wide =
    row "0xFFFFFFFF" (given 4294967295)
    ∷ row "0x0FFFFFFFF" (refused 2)
    ∷ row "18446744073709551615" (given 18446744073709551615)
    ∷ row "18446744073709551616" (refused 2)
    ∷ []

wide-cases : answers (whole_of 18446744073709551615) wide ≡ wanted wide
unfolding bytes answers wanted wide whole_of whole_from digit_of value_on all_digits
wide-cases = refl

-- a run between two places, and places that leave the bytes
between : in_run (whole_of 255) (bytes "a 17 b") 2 4 ≡ given 17
unfolding bytes in_run whole_of whole_from digit_of value_on all_digits
between = refl

turned : in_run (whole_of 255) (bytes "a 17 b") 4 2 ≡ refused 2
unfolding bytes in_run
turned = refl

outside : in_run (whole_of 255) (bytes "17") 0 3 ≡ refused 2
unfolding bytes in_run
outside = refl
