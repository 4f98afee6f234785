-- Stored numbers: the bytes of a number, in either order, at a place of an image. Over any width.
use Rattle.std.specs.Prelude.{Bool, true, false, List, [], ◌∷◌, ◌++◌, reverse, ℕ, zero, suc, ◌+◌, ◌*◌, ◌-◌, ◌/◌, ◌%◌, take, drop}

-- The number whose bytes these are, least first.
unfoldable pub number : List ℕ → ℕ
number [] = 0
number (b ∷ bs) = number bs * 256 + b

-- The w bytes of n, least first.
unfoldable pub digits : ℕ → ℕ → List ℕ
digits zero n = []
digits (suc w) n = n % 256 ∷ digits w (n / 256)

-- "Only MSB_FIRST and MSB_LAST are read." MSB_LAST has the least byte first; MSB_FIRST, here true, is the other way round.
abbrev pub ordered : Bool → List ℕ → List ℕ
ordered true bs = reverse bs
ordered false bs = bs

-- The number stored in the w bytes at place p of an image.
abbrev pub stored_at : Bool → ℕ → ℕ → List ℕ → ℕ
stored_at first p w s = number (ordered first (take w (drop p s)))

-- The image with n stored in the w bytes at place p, and the rest as it was.
abbrev pub with_stored : Bool → ℕ → ℕ → ℕ → List ℕ → List ℕ
with_stored first p w n s = take p s ++ ordered first (digits w n) ++ drop (p + w) s

-- The place of the byte with i more significant bytes above it.
abbrev pub byte_place : Bool → ℕ → ℕ → ℕ → ℕ
byte_place true p w i = p + i
byte_place false p w i = p + (w - 1 - i)
