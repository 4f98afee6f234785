-- A text's lines, and a line's fields, parted by tabs.
use Rattle.std.specs.Prelude.{ℕ, Bool, zero, suc, ◌+◌, List, [], ◌∷◌, cond, length, drop, eqb, ltb}

-- how many bytes stand before the first byte c
unfoldable pub before : ℕ → List ℕ → ℕ
before c [] = 0
before c (b ∷ bs) = cond (eqb b c) 0 (suc (before c bs))

-- the place of the first byte c at or after a place, or the length
unfoldable pub place_from : ℕ → List ℕ → ℕ → ℕ
place_from c s from = cond (ltb from (length s)) (from + before c (drop from s)) (length s)

-- "lines end with LF"
abbrev pub ends_line : ℕ → Bool
ends_line b = eqb b 10

-- where the line that a place stands in ends
unfoldable pub line_end : List ℕ → ℕ → ℕ
line_end s from = place_from 10 s from

-- how many fields a line has
unfoldable pub field_count : List ℕ → ℕ
field_count [] = 1
field_count (b ∷ bs) = cond (eqb b 9) (suc (field_count bs)) (field_count bs)

-- field k: the bytes up to the first tab, or those of field k less one after it; none where the line has no such field
unfoldable pub up_to_tab : List ℕ → List ℕ
up_to_tab [] = []
up_to_tab (b ∷ bs) = cond (eqb b 9) [] (b ∷ up_to_tab bs)

unfoldable pub past_tab : List ℕ → List ℕ
past_tab [] = []
past_tab (b ∷ bs) = cond (eqb b 9) bs (past_tab bs)

unfoldable pub field_of : ℕ → List ℕ → List ℕ
field_of zero s = up_to_tab s
field_of (suc k) s = field_of k (past_tab s)
