-- "Decimals have an optional sign, 1 to 10 digits in all, an optional point with digits on both sides, at most 6 digits after it."
-- With an exponent (document 02, wish 1): "Read an optional E or e, an optional sign and one or two digits. The meaning is the exact decimal. It is accepted if,
-- after moving the point and dropping needless zeros, it has at most 10 digits and at most 6 after the point; otherwise still 2. Numbers without an exponent
-- read as before."
use Rattle.std.specs.Prelude.{ℕ, zero, suc, ◌+◌, ◌*◌, ◌/◌, ◌%◌, ◌^◌, ◌≤◌, List, [], ◌∷◌, ◌++◌, Bool, cond, not, ◌&&◌, ◌||◌, length, drop, get_or, leb, eqb}
use Rattle.number.specs.Answer.{Answer}
use Rattle.number.specs.Answer.{given, refused}
use Rattle.number.specs.Digits.{leading, trailing, value_on, all_digits}

-- whole over 10^tens, below zero where negative
pub record Scaled : Type 0 where
  pub negative : Bool
  pub whole : ℕ
  pub tens : ℕ

-- "at most 10 digits and at most 6 after the point", and the greatest whole number of ten digits
abbrev pub most_digits : ℕ
most_digits = 10

abbrev pub most_after : ℕ
most_after = 6

abbrev pub most_whole : ℕ
most_whole = 9999999999

-- how many signs, `+` or `-`, stand first (an empty run has 0 as its first byte)
unfoldable pub signs : List ℕ → ℕ
signs s = cond (eqb (get_or s 0 0) 43 || eqb (get_or s 0 0) 45) 1 0

unfoldable pub minus : List ℕ → Bool
minus s = eqb (get_or s 0 0) 45

-- "A number is a whole number divided by the smallest power of ten that does." 0 has no sign.
unfoldable pub lowest : Bool → ℕ → ℕ → Scaled
lowest negative n zero = record { negative = negative && not (eqb n 0); whole = n; tens = 0 }
lowest negative n (suc t) = cond (eqb (n % 10) 0) (lowest negative (n / 10) t) (record { negative = negative; whole = n; tens = suc t })

-- the digits i before the point and f after it, without an exponent
unfoldable pub made : Bool → List ℕ → List ℕ → Answer Scaled
made negative i f =
    cond (leb 1 (length i) && leb (length i + length f) most_digits && leb (length f) most_after)
    (given (lowest negative (value_on 10 0 (i ++ f)) (length f)))
    (refused 2)

-- "an optional sign and one or two digits": what may follow the E, and the number that its digits write
unfoldable pub is_exponent : List ℕ → Bool
is_exponent x = all_digits 10 (drop (signs x) x) && leb 1 (length (drop (signs x) x)) && leb (length (drop (signs x) x)) 2

unfoldable pub exponent_size : List ℕ → ℕ
exponent_size x = value_on 10 0 (drop (signs x) x)

-- "The meaning is the exact decimal": n over 10^t, its point moved down where the exponent x is below zero, else up
unfoldable pub point_moved : Bool → ℕ → ℕ → List ℕ → Scaled
point_moved negative n t x = cond (minus x) (lowest negative n (t + exponent_size x)) (lowest negative (n * 10 ^ exponent_size x) t)

-- "It is accepted if, after moving the point and dropping needless zeros, it has at most 10 digits and at most 6 after the point; otherwise still 2." (With at
-- most 6 after the point its digits are those of the whole number, or zeros before them: 7 at most.)
unfoldable pub judged_decimal : Scaled → Answer Scaled
judged_decimal d = cond (leb d.whole most_whole && leb d.tens most_after) (given d) (refused 2)

-- the digits i before the point and f after it, however many, and x after the E
unfoldable pub moved_decimal : List ℕ → Bool → List ℕ → List ℕ → Answer Scaled
moved_decimal x negative i f = cond (leb 1 (length i) && is_exponent x) (judged_decimal (point_moved negative (value_on 10 0 (i ++ f)) (length f) x)) (refused 2)

-- what follows the digits i: nothing, or a point (46) and digits to the end
unfoldable pub pointed : (List ℕ → List ℕ → Answer Scaled) → List ℕ → List ℕ → Answer Scaled
pointed how i [] = how i []
pointed how i (b ∷ f) = cond (eqb b 46 && all_digits 10 f && leb 1 (length f)) (how i f) (refused 2)

-- a sign, digits, and what follows them
unfoldable pub signed_by : (Bool → List ℕ → List ℕ → Answer Scaled) → List ℕ → Answer Scaled
signed_by how s = pointed (how (minus s)) (leading (drop (signs s) s)) (trailing (drop (signs s) s))

-- a run without an exponent
unfoldable pub plain_of : List ℕ → Answer Scaled
plain_of s = signed_by made s

-- `E` or `e`
unfoldable pub is_e : ℕ → Bool
is_e b = eqb b 69 || eqb b 101

-- the bytes before the first E or e, and the rest from it on
unfoldable pub mantissa : List ℕ → List ℕ
mantissa [] = []
mantissa (b ∷ s) = cond (is_e b) [] (b ∷ mantissa s)

unfoldable pub from_e : List ℕ → List ℕ
from_e [] = []
from_e (b ∷ s) = cond (is_e b) (b ∷ s) (from_e s)

-- "Numbers without an exponent read as before."
unfoldable pub with_exponent : List ℕ → List ℕ → Answer Scaled
with_exponent s [] = plain_of s
with_exponent s (e ∷ x) = signed_by (moved_decimal x) (mantissa s)

unfoldable pub decimal_of : List ℕ → Answer Scaled
decimal_of s = with_exponent s (from_e s)

-- what every decimal keeps: ten digits, six of them after the point
pub record Form (d : Scaled) : Type 0 where
  pub whole_most : d.whole ≤ most_whole
  pub tens_most : d.tens ≤ most_after
