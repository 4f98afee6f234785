-- Worked examples: decimals against fractions, and fractions in six places, computed.
use Prim.Native.Nat.{ℕ}
use mathlib.Core.Path.{◌≡◌, refl}
use mathlib.Core.List.{[], ◌∷◌}
use mathlib.Core.Bool.{Bool, true, false}
use lib.IntN.{ℤ, pos, neg_ℤ}
use Rattle.number.specs.Decimal.{Scaled}
use Rattle.convert.specs.Limit.{formed, at_most_fraction, fraction_at_most}
use Rattle.convert.specs.Round.{rounded}
use Rattle.places.specs.declared.six.Six.{Six}
use Rattle.places.specs.Six.{millionths_of, six_places}

-- ---- a decimal and a fraction: the first is the smaller, the larger, both are the same, or they do not compare
abbrev plus : ℕ → ℕ → Scaled
plus w t = record { negative = false; whole = w; tens = t }

abbrev minus : ℕ → ℕ → Scaled
minus w t = record { negative = true; whole = w; tens = t }

abbrev both : Scaled → ℤ → ℤ → Bool × Bool
both a n d = (at_most_fraction a n d, fraction_at_most n d a)

abbrev smaller : Bool × Bool
smaller = (true, false)

abbrev larger : Bool × Bool
larger = (false, true)

abbrev same : Bool × Bool
same = (true, true)

abbrev neither : Bool × Bool
neither = (false, false)

-- a limit of 14.4 and steps of 0.25: 57/4 lies below it and 58/4 above; a limit of 14.5 is met
steps : both (plus 144 1) (pos 57) (pos 4) ∷ both (plus 144 1) (pos 58) (pos 4) ∷ both (plus 145 1) (pos 58) (pos 4) ∷ [] ≡ larger ∷ smaller ∷ same ∷ []
unfolding at_most_fraction fraction_at_most formed
steps = refl

-- signs, and 0 with a sign and without
signs :
    both (minus 5 4) (neg_ℤ (pos 1)) (pos 1000) ∷ both (minus 5 4) (neg_ℤ (pos 1)) (pos 2000) ∷ both (minus 5 4) (pos 1) (pos 2000)
    ∷ both (plus 5 4) (neg_ℤ (pos 1)) (pos 2000) ∷ both (plus 0 0) (pos 0) (pos 9) ∷ both (minus 0 0) (pos 0) (pos 9)
    ∷ []
    ≡ larger ∷ same ∷ smaller ∷ larger ∷ same ∷ same ∷ []
unfolding at_most_fraction fraction_at_most formed
signs = refl

-- fractions at and past every decimal, and below every one but 0
ends :
    both (plus 9999999999 0) (pos 9999999999) (pos 1) ∷ both (plus 9999999999 0) (pos 10000000000) (pos 1) ∷ both (plus 9999999999 0) (pos 9223372036854775807) (pos 1)
    ∷ both (minus 9999999999 0) (neg_ℤ (pos 9223372036854775808)) (pos 1) ∷ both (plus 1 6) (pos 1) (pos 9223372036854775807) ∷ []
    ≡ same ∷ smaller ∷ smaller ∷ larger ∷ larger ∷ []
unfolding at_most_fraction fraction_at_most formed
ends = refl

-- fractions next to 1 and -1, of numbers near 2^62 and 2^63
near :
    both (plus 1 0) (pos 4611686018427387903) (pos 4611686018427387904) ∷ both (plus 1 0) (pos 4611686018427387905) (pos 4611686018427387904) ∷ both (plus 1 0) (pos 9223372036854775806) (pos 9223372036854775807)
    ∷ both (plus 1 0) (pos 9223372036854775807) (pos 9223372036854775807) ∷ both (minus 1 0) (neg_ℤ (pos 9223372036854775808)) (pos 9223372036854775807) ∷ []
    ≡ larger ∷ smaller ∷ larger ∷ same ∷ larger ∷ []
unfolding at_most_fraction fraction_at_most formed
near = refl

-- a divisor of 0 or below it, and decimals that no text can write
formless :
    both (plus 1 0) (pos 1) (pos 0) ∷ both (plus 1 0) (pos 1) (neg_ℤ (pos 1)) ∷ both (plus 1 7) (pos 1) (pos 1)
    ∷ both (plus 10000000000 0) (pos 1) (pos 1) ∷ []
    ≡ neither ∷ neither ∷ neither ∷ neither ∷ []
unfolding at_most_fraction fraction_at_most formed
formless = refl

-- ---- fractions in six places: halves go up, and a million millionths are a whole
abbrev six : ℕ → ℕ → Six
six w m = record { whole = w; millionths = m }

sixes :
    six_places 11800 1000 ∷ six_places 1 3 ∷ six_places 2 3
    ∷ six_places 9999994 10000000 ∷ six_places 9999995 10000000 ∷ six_places 1 2000000
    ∷ six_places 1 2000001 ∷ six_places 0 7 ∷ []
    ≡ six 11 800000 ∷ six 0 333333 ∷ six 0 666667 ∷ six 0 999999 ∷ six 1 0 ∷ six 0 1 ∷ six 0 0 ∷ six 0 0 ∷ []
unfolding six_places millionths_of rounded
sixes = refl

-- above 2^53, at the greatest u64, by the greatest divisor, and by those that are none
bounds :
    six_places 9007199254740993 2 ∷ six_places 18446744073709551615 1 ∷ six_places 18446744073709551615 2
    ∷ six_places 9223372036854775806 9223372036854775807 ∷ six_places 18446744073709551615 9223372036854775807 ∷ six_places 1 9223372036854775808
    ∷ six_places 5 0 ∷ []
    ≡ six 4503599627370496 500000 ∷ six 18446744073709551615 0 ∷ six 9223372036854775807 500000 ∷ six 1 0 ∷ six 2 0 ∷ six 0 0 ∷ six 0 0 ∷ []
unfolding six_places millionths_of rounded
bounds = refl
