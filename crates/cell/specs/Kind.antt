-- Data types, by code.
use Rattle.std.specs.Prelude.{ℕ, Bool, true, false, ◌&&◌, List, [], ◌∷◌, leb, get_or}
use Rattle.cell.specs.declared.kind.Shape.{Shape}

abbrev shape : ℕ → Bool → ℕ → Shape
shape bytes signed align = record { bytes = bytes; signed = signed; align = align }

-- A code that is no data type: it has no bytes, and they hold the one number 0.
abbrev pub no_type : Shape
no_type = shape 0 false 1

-- The codes.
abbrev pub UBYTE : ℕ
UBYTE = 1

abbrev pub SBYTE : ℕ
SBYTE = 2

abbrev pub UWORD : ℕ
UWORD = 3

abbrev pub SWORD : ℕ
SWORD = 4

abbrev pub ULONG : ℕ
ULONG = 5

abbrev pub SLONG : ℕ
SLONG = 6

-- "Data types: UBYTE, SBYTE, UWORD, SWORD, ULONG, SLONG."
unfoldable pub is_type : ℕ → Bool
is_type k = leb UBYTE k && leb k SLONG

-- "One decision gives size, sign and alignment for each data type: bytes 1, words 2, longs 4, signed in two's complement."
-- By code, from 0 on: none, UBYTE, SBYTE, UWORD, SWORD, ULONG, SLONG.
unfoldable pub shapes : List Shape
shapes =
    no_type
    ∷ shape 1 false 1
    ∷ shape 1 true 1
    ∷ shape 2 false 2
    ∷ shape 2 true 2
    ∷ shape 4 false 4
    ∷ shape 4 true 4
    ∷ []

unfoldable pub shape_of : ℕ → Shape
shape_of code = get_or shapes code no_type
