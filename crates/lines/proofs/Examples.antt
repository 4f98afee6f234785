-- The definitions at some texts and lines, computed.
use Prim.Native.Nat.{ℕ}
use Prim.Native.Char.{code}
use Prim.Native.String.{String, [] as []ˢ, ◌∷◌ as ◌∷ˢ◌}
use mathlib.Core.Path.{◌≡◌, refl}
use mathlib.Core.List.{List, [], ◌∷◌, map}
use Rattle.lines.specs.Field.{before, place_from, line_end, field_count, up_to_tab, past_tab, field_of}

bytes : String → List ℕ
bytes []ˢ = []
bytes (c ∷ˢ s) = code c ∷ bytes s

-- ---- where the lines of a text of three lines end; a place past the end counts as the end
text : List ℕ
unfolding bytes
text = bytes "ab\n\ncd"

line-ends : map (line_end text) (0 ∷ 2 ∷ 3 ∷ 4 ∷ 6 ∷ 7 ∷ []) ≡ 2 ∷ 2 ∷ 3 ∷ 6 ∷ 6 ∷ 6 ∷ []
unfolding bytes text line_end place_from before
line-ends = refl

-- ---- fields: one may be empty, and one that a line does not have is
fields : map (λ (k : ℕ). field_of k (bytes "A\tB\t\tC")) (0 ∷ 1 ∷ 2 ∷ 3 ∷ 4 ∷ 9 ∷ []) ≡ bytes "A" ∷ bytes "B" ∷ [] ∷ bytes "C" ∷ [] ∷ [] ∷ []
unfolding bytes field_of up_to_tab past_tab
fields = refl

field-counts : map (λ (s : String). field_count (bytes s)) ("A\tB\t\tC" ∷ "A" ∷ "" ∷ "\t" ∷ "A\t" ∷ []) ≡ 4 ∷ 1 ∷ 1 ∷ 2 ∷ 2 ∷ []
unfolding bytes field_count
field-counts = refl
