-- What a person types: a part's letter, a raw number.
use Rattle.std.specs.Prelude.{ℕ, List, Bool, cond, ℤ, length, get_or, drop, eqb}
use Rattle.number.specs.Answer.{Answer, given, refused}
use Rattle.number.specs.Decimal.{signs, minus}
use Rattle.number.specs.Signed.{signed_of, most_signed}
use Rattle.number.specs.Whole.{whole_from}

-- "Requests name an element by object number, part and index": x is 0, y is 1, v is 2; any other word is no part, 3.
unfoldable pub part_of : List ℕ → ℕ
part_of s =
    cond (eqb (length s) 1)
    (cond (eqb (get_or s 0 0) 120) 0 (cond (eqb (get_or s 0 0) 121) 1 (cond (eqb (get_or s 0 0) 118) 2 3)))
    3

abbrev pub with_sign : Bool → Answer ℕ → Answer ℤ
with_sign negative (given n) = given (signed_of negative n)
with_sign negative (refused k) = refused 15

-- A raw number is a whole number with an optional sign that an i64 holds: one sign at most, then decimal digits, one or more.
-- Anything else, the empty word too, is 15.
unfoldable pub raw_typed : List ℕ → Answer ℤ
raw_typed s = with_sign (minus s) (whole_from 10 (most_signed (minus s)) (drop (signs s) s))
