-- A row of the table of words, and the first row that has a word.
use Rattle.std.specs.Prelude.{ℕ, List, [], ◌∷◌, Bool, true, false, cond, ◌&&◌, eqb}
use Prim.Native.Char.{code}
use Prim.Native.String.{String, [] as []ˢ, ◌∷◌ as ◌∷ˢ◌}
use Rattle.words.specs.Kind.{Kind, unlisted}

-- the bytes of a text
unfoldable pub bytes : String → List ℕ
bytes []ˢ = []
bytes (c ∷ˢ s) = code c ∷ bytes s

-- a word's bytes, and what is done with it
pub data Row : Type 0 where
  row : List ℕ → Kind → Row

unfoldable pub word : String → Kind → Row
word s k = row (bytes s) k

-- whether two words are the same, byte by byte: "case counts"
unfoldable pub same : List ℕ → List ℕ → Bool
same [] [] = true
same [] (b ∷ w) = false
same (a ∷ v) [] = false
same (a ∷ v) (b ∷ w) = eqb a b && same v w

unfoldable pub kind_in : List Row → List ℕ → Kind
kind_in [] w = unlisted
kind_in (row v k ∷ rs) w = cond (same v w) k (kind_in rs w)
