-- A place of a text as people count it: lines and columns from 1, columns in bytes. A line ends with LF.
use Rattle.std.specs.Prelude.{ℕ, suc, List, [], ◌∷◌, cond, take, eqb}

-- how many lines end in these bytes
unfoldable pub line_ends : List ℕ → ℕ
line_ends [] = 0
line_ends (b ∷ bs) = cond (eqb b 10) (suc (line_ends bs)) (line_ends bs)

-- how many bytes stand after the last line end of these bytes, where n stood before them
unfoldable pub since_end : ℕ → List ℕ → ℕ
since_end n [] = n
since_end n (b ∷ bs) = cond (eqb b 10) (since_end 0 bs) (since_end (suc n) bs)

-- the line and the column of a place, by the bytes before it
unfoldable pub line_number : List ℕ → ℕ → ℕ
line_number x p = suc (line_ends (take p x))

unfoldable pub column_at : List ℕ → ℕ → ℕ
column_at x p = suc (since_end 0 (take p x))
