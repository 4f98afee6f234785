-- The definitions at some numbers and buffers, computed.
use Prim.Native.Nat.{ℕ}
use Prim.Native.Char.{code}
use Prim.Native.String.{String, [] as []ˢ, ◌∷◌ as ◌∷ˢ◌}
use mathlib.Core.Path.{◌≡◌, refl}
use mathlib.Core.List.{List, [], ◌∷◌, map}
use lib.IntN.{pos, negsuc}
use Rattle.print.specs.Print.{figures_of, signed}
use Rattle.print.specs.Put.{put}

bytes : String → List ℕ
bytes []ˢ = []
bytes (c ∷ˢ s) = code c ∷ bytes s

-- numbers
numbers : map signed (pos 0 ∷ pos 9 ∷ pos 10 ∷ pos 100 ∷ negsuc 0 ∷ negsuc 9 ∷ pos 9223372036854775807 ∷ negsuc 9223372036854775807 ∷ [])
    ≡ bytes "0" ∷ bytes "9" ∷ bytes "10" ∷ bytes "100" ∷ bytes "-1" ∷ bytes "-10" ∷ bytes "9223372036854775807" ∷ bytes "-9223372036854775808" ∷ []
unfolding bytes figures_of
numbers = refl

-- room before and past the bytes is untouched, and what is past the end is stored nowhere
laid-in-front : put 1 (65 ∷ 66 ∷ []) (7 ∷ 7 ∷ 7 ∷ 7 ∷ []) ∷ put 3 (65 ∷ 66 ∷ []) (7 ∷ 7 ∷ 7 ∷ 7 ∷ []) ∷ [] ≡ (7 ∷ 65 ∷ 66 ∷ 7 ∷ []) ∷ (7 ∷ 7 ∷ 7 ∷ 65 ∷ []) ∷ []
unfolding put
laid-in-front = refl
