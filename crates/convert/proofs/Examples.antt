-- Worked examples of the readings: asked values, limits, verbal tables, shown values.
use Prim.Native.Nat.{ℕ, ◌+◌, ◌^◌}
use Prim.Native.Char.{code}
use Prim.Native.String.{String, [] as []ˢ, ◌∷◌ as ◌∷ˢ◌}
use mathlib.Core.Path.{◌≡◌, refl}
use mathlib.Core.Bool.{true, false}
use mathlib.Core.List.{List, [], ◌∷◌, map}
use lib.IntN.{ℤ, pos, neg_ℤ}
use lib.ListN.{get_or}
use Rattle.number.specs.Answer.{Answer, given, refused}
use Rattle.number.specs.Digits.{digit_of, leading, trailing, value_on, all_digits}
use Rattle.number.specs.Decimal.{Scaled, signs, minus, lowest, made, pointed, is_exponent, exponent_size, point_moved, judged_decimal, moved_decimal, signed_by, plain_of, is_e, mantissa, from_e, with_exponent, decimal_of}
use Rattle.cell.specs.Kind.{shapes, shape_of, UBYTE, SWORD}
use Rattle.cell.specs.Raw.{fits_raw}
use Rattle.convert.specs.declared.method.Coefficients.{Coefficients}
use Rattle.convert.specs.Whole.{all_small}
use Rattle.convert.specs.Limit.{formed, at_most, within_limits, at_most_fraction, fraction_at_most}
use Rattle.convert.specs.Method.{four}
use Rattle.convert.specs.Fraction.{none, number, text, fraction, fraction_of}
use Rattle.convert.specs.Shown.{nothing, words, shown}
use Rattle.convert.specs.Round.{Halves, away, to_even, rounded, nearest, raw_for}
use Rattle.convert.specs.Verbal.{text_of, entries_from, verbal_of}
use Rattle.convert.specs.Asked.{asked_of, nearest_raw, rounded_raw, means_within, asked_raw}

bytes : String → List ℕ
bytes []ˢ = []
bytes (c ∷ˢ s) = code c ∷ bytes s

abbrev over : ℕ → ℕ → Scaled
over n t = record { negative = false; whole = n; tens = t }

-- needless zeros are dropped before the whole number is bounded; what is no decimal is 15
asked : map (λ (s : String). asked_of (bytes s)) ("12345678.90" ∷ "1234567.891" ∷ "1000000000" ∷ "1000000001" ∷ "+5" ∷ "0x10" ∷ " 5" ∷ "" ∷ [])
    ≡ given (over 123456789 1) ∷ refused 15 ∷ given (over 1000000000 0) ∷ refused 15 ∷ given (over 5 0) ∷ refused 15 ∷ refused 15 ∷ refused 15 ∷ []
unfolding bytes asked_of decimal_of signed_by plain_of is_e from_e with_exponent pointed made lowest signs minus leading trailing value_on all_digits digit_of
asked = refl

-- with an exponent the bound is on the number after the move
exponents : map (λ (s : String). asked_of (bytes s)) ("1e9" ∷ "12345678.90e0" ∷ "1000000001e0" ∷ "1234567.891e0" ∷ "1e10" ∷ "1e-7" ∷ "1e" ∷ [])
    ≡ given (over 1000000000 0) ∷ given (over 123456789 1) ∷ refused 15 ∷ refused 15 ∷ refused 15 ∷ refused 15 ∷ refused 15 ∷ []
unfolding bytes asked_of decimal_of signed_by plain_of is_e mantissa from_e with_exponent is_exponent exponent_size point_moved judged_decimal moved_decimal pointed made lowest signs minus leading trailing value_on all_digits digit_of
exponents = refl

-- both ends of 0.5 to 2 are inside
limits : map (within_limits (over 5 1) (over 2 0)) (over 49 2 ∷ over 5 1 ∷ over 2 0 ∷ over 2001 3 ∷ []) ≡ false ∷ true ∷ true ∷ false ∷ []
unfolding at_most formed
limits = refl

-- a negative decimal
abbrev below : ℕ → ℕ → Scaled
below n t = record { negative = true; whole = n; tens = t }

-- what an asked text stores without a mask, by a rule on halves, limits, coefficients and a data type
abbrev stored_by : Halves → Scaled → Scaled → Coefficients → ℕ → List String → List (Answer ℤ)
stored_by up lower upper k type = map (λ (s : String). asked_raw up lower upper k (shape_of type) 0 (bytes s))

-- "14.4 where the controller counts in steps of 0.25. The nearest step, 14.5, went in.": 16 for what is stored, for what is asked, and 15
steps : stored_by away (over 0 0) (over 144 1) (four (pos 4) (pos 0) (pos 0) (pos 1)) UBYTE ("14.4" ∷ "14.3" ∷ "0" ∷ "14.5" ∷ "x" ∷ []) ≡ refused 16 ∷ given (pos 57) ∷ given (pos 0) ∷ refused 16 ∷ refused 15 ∷ []
unfolding bytes shapes shape_of asked_of decimal_of signed_by plain_of is_e from_e with_exponent pointed made lowest signs minus leading trailing value_on all_digits digit_of formed at_most all_small rounded nearest raw_for nearest_raw rounded_raw fits_raw fraction fraction_of at_most_fraction fraction_at_most means_within asked_raw
steps = refl

-- "A rounded number that means no value at all counts as outside the limits.": COEFFS 0 0 60 0 1 0, where 0 means nothing; 17 and 18 come before
poles : stored_by away (below 9999999999 0) (over 9999999999 0) (four (pos 0) (pos 60) (pos 1) (pos 0)) UBYTE ("1000" ∷ "0" ∷ "0.2" ∷ "20" ∷ []) ≡ refused 16 ∷ refused 17 ∷ refused 18 ∷ given (pos 3) ∷ []
unfolding bytes shapes shape_of asked_of decimal_of signed_by plain_of is_e from_e with_exponent pointed made lowest signs minus leading trailing value_on all_digits digit_of formed at_most all_small rounded nearest raw_for nearest_raw rounded_raw fits_raw fraction fraction_of at_most_fraction fraction_at_most means_within asked_raw
poles = refl

-- thousandths from −0.0005 to 1: −0.0005 is inside, and −0.001, which is nearest to it, is not
lower-end : stored_by away (below 5 4) (over 1 0) (four (pos 1000) (pos 0) (pos 0) (pos 1)) SWORD ("-0.0005" ∷ "-0.0004" ∷ "1" ∷ []) ≡ refused 16 ∷ given (pos 0) ∷ given (pos 1000) ∷ []
unfolding bytes shapes shape_of asked_of decimal_of signed_by plain_of is_e from_e with_exponent pointed made lowest signs minus leading trailing value_on all_digits digit_of formed at_most all_small rounded nearest raw_for nearest_raw rounded_raw fits_raw fraction fraction_of at_most_fraction fraction_at_most means_within asked_raw
lower-end = refl

-- 2.4, 2.5 and 2.6 as sizes
halves : map (λ (n : ℕ). rounded away n 10) (24 ∷ 25 ∷ 26 ∷ []) ≡ 2 ∷ 3 ∷ 3 ∷ []
unfolding rounded
halves = refl

-- to the even whole number, below zero too: 0.5, 1.5, 2.5, −0.5, −2.5
evens : map (λ (n : ℤ). nearest to_even n (pos 2)) (pos 1 ∷ pos 3 ∷ pos 5 ∷ neg_ℤ (pos 1) ∷ neg_ℤ (pos 5) ∷ []) ≡ pos 0 ∷ pos 2 ∷ pos 2 ∷ pos 0 ∷ neg_ℤ (pos 2) ∷ []
unfolding rounded nearest
evens = refl

-- at a half the answers may differ: −0.5 into UBYTE from −1 to 255, and 2.5 from 0 to 2.9
identical : Coefficients
identical = four (pos 1) (pos 0) (pos 0) (pos 1)

below-away : stored_by away (below 1 0) (over 255 0) identical UBYTE ("-0.5" ∷ []) ≡ refused 18 ∷ []
unfolding bytes shapes shape_of asked_of decimal_of signed_by plain_of is_e from_e with_exponent pointed made lowest signs minus leading trailing value_on all_digits digit_of formed at_most all_small rounded nearest raw_for nearest_raw rounded_raw fits_raw fraction fraction_of at_most_fraction fraction_at_most means_within asked_raw identical
below-away = refl

below-even : stored_by to_even (below 1 0) (over 255 0) identical UBYTE ("-0.5" ∷ []) ≡ given (pos 0) ∷ []
unfolding bytes shapes shape_of asked_of decimal_of signed_by plain_of is_e from_e with_exponent pointed made lowest signs minus leading trailing value_on all_digits digit_of formed at_most all_small rounded nearest raw_for nearest_raw rounded_raw fits_raw fraction fraction_of at_most_fraction fraction_at_most means_within asked_raw identical
below-even = refl

above-away : stored_by away (over 0 0) (over 29 1) identical UBYTE ("2.5" ∷ []) ≡ refused 16 ∷ []
unfolding bytes shapes shape_of asked_of decimal_of signed_by plain_of is_e from_e with_exponent pointed made lowest signs minus leading trailing value_on all_digits digit_of formed at_most all_small rounded nearest raw_for nearest_raw rounded_raw fits_raw fraction fraction_of at_most_fraction fraction_at_most means_within asked_raw identical
above-away = refl

above-even : stored_by to_even (over 0 0) (over 29 1) identical UBYTE ("2.5" ∷ []) ≡ given (pos 2) ∷ []
unfolding bytes shapes shape_of asked_of decimal_of signed_by plain_of is_e from_e with_exponent pointed made lowest signs minus leading trailing value_on all_digits digit_of formed at_most all_small rounded nearest raw_for nearest_raw rounded_raw fits_raw fraction fraction_of at_most_fraction fraction_at_most means_within asked_raw identical
above-even = refl

-- a table of the numbers 1 and −2 from entry 1 on, with a default at 90 to 95, and with none
table : List (List ℕ)
table = [] ∷ (0 ∷ 1 ∷ 10 ∷ 14 ∷ []) ∷ (1 ∷ 2 ∷ 20 ∷ 25 ∷ []) ∷ []

in_table : ℕ → ℕ → ℕ
in_table e k = get_or (get_or table e []) k 0

texts : map (verbal_of in_table 1 2 90 95) (pos 1 ∷ neg_ℤ (pos 2) ∷ pos 2 ∷ []) ≡ text 10 14 ∷ text 20 25 ∷ text 90 95 ∷ []
unfolding table in_table verbal_of entries_from text_of
texts = refl

no_text : verbal_of in_table 1 2 0 0 (pos 2) ≡ none
unfolding table in_table verbal_of entries_from text_of
no_text = refl

-- above 2^53 nothing is shown; a text is shown by its places
showns : map shown (none ∷ number (pos (2 ^ 53 + 1)) (pos 1) ∷ text 10 14 ∷ []) ≡ nothing ∷ nothing ∷ words 10 14 ∷ []
unfolding shown
showns = refl
