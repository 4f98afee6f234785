-- Bytes of a text: single ones, two side by side, and a part that spells a word.
use Rattle.std.specs.Prelude.{ℕ, zero, suc, ◌+◌, ◌-◌, List, [], ◌∷◌, Bool, true, ◌&&◌, ◌||◌, length, get_or, ltb, leb, eqb}
use Prim.Native.Char.{code}
use Prim.Native.String.{String, len, char_at}

-- the byte at a place, 0 past the end
abbrev pub byte : List ℕ → ℕ → ℕ
byte s k = get_or s k 0

-- the bytes of a text written in a definition
abbrev pub spelt_from : ℕ → ℕ → String → List ℕ
spelt_from zero k w = []
spelt_from (suc n) k w = code (char_at w k) ∷ spelt_from n (suc k) w

abbrev pub spelt : String → List ℕ
spelt w = spelt_from (len w) 0 w

-- "Blanks are space, tab, CR, LF."
unfoldable pub is_blank : ℕ → Bool
is_blank b = eqb b 32 || eqb b 9 || eqb b 13 || eqb b 10

-- "Outside strings and comments only bytes 33 to 126 and blanks are allowed."
unfoldable pub is_allowed : ℕ → Bool
is_allowed b = leb 33 b && leb b 126

-- A to Z, a to z
unfoldable pub is_letter : ℕ → Bool
is_letter b = leb 65 b && leb b 90 || leb 97 b && leb b 122

-- 0 to 9
unfoldable pub is_digit : ℕ → Bool
is_digit b = leb 48 b && leb b 57

-- "A name starts with a letter or `_`"
unfoldable pub starts_name : ℕ → Bool
starts_name b = is_letter b || eqb b (code "_")

-- "goes on with letters, digits, `_`, `.`, `[`, `]`"
unfoldable pub in_name : ℕ → Bool
in_name b = starts_name b || is_digit b || eqb b (code ".") || eqb b (code "[") || eqb b (code "]")

-- "A run that starts with a digit, sign or point"
unfoldable pub starts_number : ℕ → Bool
starts_number b = is_digit b || eqb b (code "+") || eqb b (code "-") || eqb b (code ".")

-- the two bytes a, b stand at a place
unfoldable pub pair_at : List ℕ → ℕ → ℕ → ℕ → Bool
pair_at s k a b = ltb (k + 1) (length s) && eqb (byte s k) a && eqb (byte s (k + 1)) b

-- n bytes of s from k on are those of w from j on
unfoldable pub same_for : ℕ → List ℕ → ℕ → List ℕ → ℕ → Bool
same_for zero s k w j = true
same_for (suc n) s k w j = eqb (byte s k) (byte w j) && same_for n s (suc k) w (suc j)

-- the bytes of s from k up to e are, byte for byte, those of w from j up to f
unfoldable pub same_part : List ℕ → ℕ → ℕ → List ℕ → ℕ → ℕ → Bool
same_part s k e w j f = leb k e && leb j f && eqb (e - k) (f - j) && same_for (e - k) s k w j

-- the bytes of s from k up to e spell a word
abbrev pub spells : List ℕ → ℕ → ℕ → String → Bool
spells s k e w = same_part s k e (spelt w) 0 (len w)
