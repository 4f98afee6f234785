-- The definitions at some places and words, computed.
use Prim.Native.Nat.{ℕ}
use Prim.Native.Char.{code}
use Prim.Native.String.{String, [] as []ˢ, ◌∷◌ as ◌∷ˢ◌}
use mathlib.Core.Path.{◌≡◌, refl}
use mathlib.Core.List.{List, [], ◌∷◌, map}
use lib.IntN.{pos, negsuc}
use Rattle.number.specs.Answer.{given, refused}
use Rattle.number.specs.Digits.{digit_of, value_on, all_digits}
use Rattle.number.specs.Decimal.{signs, minus}
use Rattle.number.specs.Whole.{whole_from}
use Rattle.ask.specs.Spot.{line_ends, since_end, line_number, column_at}
use Rattle.ask.specs.Typed.{part_of, raw_typed}

bytes : String → List ℕ
bytes []ˢ = []
bytes (c ∷ˢ s) = code c ∷ bytes s

-- ---- lines and columns of the places of a text of three lines; a place past the end counts as the end
text : List ℕ
unfolding bytes
text = bytes "ab\n\ncd"

lines : map (line_number text) (0 ∷ 1 ∷ 2 ∷ 3 ∷ 4 ∷ 5 ∷ 6 ∷ 7 ∷ 99 ∷ []) ≡ 1 ∷ 1 ∷ 1 ∷ 2 ∷ 3 ∷ 3 ∷ 3 ∷ 3 ∷ 3 ∷ []
unfolding bytes text line_number line_ends
lines = refl

columns : map (column_at text) (0 ∷ 1 ∷ 2 ∷ 3 ∷ 4 ∷ 5 ∷ 6 ∷ 7 ∷ 99 ∷ []) ≡ 1 ∷ 2 ∷ 3 ∷ 1 ∷ 1 ∷ 2 ∷ 3 ∷ 3 ∷ 3 ∷ []
unfolding bytes text column_at since_end
columns = refl

-- ---- letters of parts, and raw numbers
parts : map (λ (s : String). part_of (bytes s)) ("x" ∷ "y" ∷ "v" ∷ "X" ∷ "xy" ∷ "" ∷ []) ≡ 0 ∷ 1 ∷ 2 ∷ 3 ∷ 3 ∷ 3 ∷ []
unfolding bytes part_of
parts = refl

raws : map (λ (s : String). raw_typed (bytes s)) ("0" ∷ "-0" ∷ "+5" ∷ "-5" ∷ "007" ∷ "9223372036854775807" ∷ "-9223372036854775808" ∷ [])
    ≡ given (pos 0) ∷ given (pos 0) ∷ given (pos 5) ∷ given (negsuc 4) ∷ given (pos 7) ∷ given (pos 9223372036854775807) ∷ given (negsuc 9223372036854775807) ∷ []
unfolding bytes raw_typed signs minus whole_from value_on all_digits digit_of
raws = refl

refusals : map (λ (s : String). raw_typed (bytes s)) ("9223372036854775808" ∷ "-9223372036854775809" ∷ "" ∷ "-" ∷ "+-5" ∷ "0x10" ∷ "-0x1" ∷ "1.0" ∷ " 5" ∷ "5 " ∷ [])
    ≡ refused 15 ∷ refused 15 ∷ refused 15 ∷ refused 15 ∷ refused 15 ∷ refused 15 ∷ refused 15 ∷ refused 15 ∷ refused 15 ∷ refused 15 ∷ []
unfolding bytes raw_typed signs minus whole_from value_on all_digits digit_of
refusals = refl
