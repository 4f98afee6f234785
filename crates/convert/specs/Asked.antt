-- A physical write: from the asked text to the raw number.
use Rattle.std.specs.Prelude.{Bool, false, cond, ◌&&◌, List, ℕ, ◌^◌, leb, ℤ, pos}
use Rattle.number.specs.Answer.{Answer, given, refused}
use Rattle.number.specs.Decimal.{Scaled, decimal_of}
use Rattle.cell.specs.declared.kind.Shape.{Shape}
use Rattle.cell.specs.Raw.{fits_raw}
use Rattle.convert.specs.declared.method.Coefficients.{Coefficients}
use Rattle.number.specs.Signed.{signed_of}
use Rattle.convert.specs.Whole.{all_small}
use Rattle.convert.specs.Limit.{within_limits, at_most_fraction, fraction_at_most}
use Rattle.convert.specs.Fraction.{Value, none, number, text, fraction_of}
use Rattle.convert.specs.Round.{Halves, raw_for}

-- The first of several judgements that refuses.
abbrev pub and_then : {A B : Type 0} → Answer A → (A → Answer B) → Answer B
and_then (given a) f = f a
and_then (refused k) f = refused k

abbrev pub or_refused : {A : Type 0} → ℕ → Bool → A → Answer A
or_refused k good a = cond good (given a) (refused k)

-- "15: asked value outside its form": it is a decimal, "a whole part over ten-power of size at most 10^9".
abbrev pub as_decimal : Answer Scaled → Answer Scaled
as_decimal (given d) = or_refused 15 (leb d.whole 1000000000) d
as_decimal (refused k) = refused 15

unfoldable pub asked_of : List ℕ → Answer Scaled
asked_of s = as_decimal (decimal_of s)

-- "17: no raw value exists". (There is none by coefficients that no method has.)
unfoldable pub nearest_raw : Halves → Coefficients → Scaled → Answer ℤ
nearest_raw up k d = cond (all_small k) (raw_for up k (signed_of d.negative d.whole) (pos (10 ^ d.tens))) (refused 17)

-- "18: doesn't fit type or mask"
abbrev pub fitting_raw : Shape → ℕ → Answer ℤ → Answer ℤ
fitting_raw t mask a = and_then a (λ z. or_refused 18 (fits_raw t mask z) z)

-- "Write order: .. 15, 16, 17, 18": form, limits, nearest raw number, type and mask: the rounded number that an asked text has, by a rule on halves.
unfoldable pub rounded_raw : Halves → Scaled → Scaled → Coefficients → Shape → ℕ → List ℕ → Answer ℤ
rounded_raw up lower upper k t mask s =
    and_then (asked_of s) (λ d.
    and_then (or_refused 16 (within_limits lower upper d) d) (λ d.
    fitting_raw t mask (nearest_raw up k d)))

-- "A rounded number that means no value at all counts as outside the limits."
abbrev pub value_within : Scaled → Scaled → Value → Bool
value_within lower upper none = false
value_within lower upper (number n d) = at_most_fraction lower n d && fraction_at_most n d upper
value_within lower upper (text first past) = false

-- "Test the value that the stored number means, as its exact fraction, as well as the asked one."
unfoldable pub means_within : Scaled → Scaled → Coefficients → ℤ → Bool
means_within lower upper k z = value_within lower upper (fraction_of k z)

-- 16 "for the stored one": a rounded number where what it means lies within the limits
abbrev pub limited_raw : Scaled → Scaled → Coefficients → Answer ℤ → Answer ℤ
limited_raw lower upper k a = and_then a (λ z. or_refused 16 (means_within lower upper k z) z)

-- "16 is given first for the asked value in its old place, and for the stored one after 17 and 18."
unfoldable pub asked_raw : Halves → Scaled → Scaled → Coefficients → Shape → ℕ → List ℕ → Answer ℤ
asked_raw up lower upper k t mask s = limited_raw lower upper k (rounded_raw up lower upper k t mask s)
