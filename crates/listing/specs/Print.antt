-- How values and lines are printed.
use Rattle.std.specs.Prelude.{ℕ, List, [], ◌∷◌, ◌++◌, cond, eqb, ℤ, nat_abs}
use Rattle.text.specs.Bytes.{spelt}
use Rattle.print.specs.Print.{figures, signed, slice}

-- "Printed, a none is `-`", a fraction is never cancelled, "the sign stands in the numerator", a text stands as in the description, quotes included
unfoldable pub physical : List ℕ → ℕ → ℤ → ℤ → List ℕ
physical x state first second =
    cond (eqb state 1) (signed first ++ (47 ∷ signed second))
    (cond (eqb state 2) (slice x (nat_abs first) (nat_abs second))
    (45 ∷ []))

-- "part": x, y or v
abbrev pub letter : ℕ → ℕ
letter part = cond (eqb part 0) 120 (cond (eqb part 1) 121 118)

-- "name→part→index→raw→physical" (→ is one tab, lines end with LF)
unfoldable pub line : List ℕ → List ℕ → ℕ → ℕ → ℤ → List ℕ → List ℕ
line x name part index raw value = name ++ (9 ∷ letter part ∷ 9 ∷ figures index ++ (9 ∷ signed raw ++ (9 ∷ value ++ (10 ∷ []))))

-- the first line of a listing: name, part, index, raw, physical, parted by tabs
unfoldable pub header : List ℕ
header = spelt "name" ++ (9 ∷ spelt "part" ++ (9 ∷ spelt "index" ++ (9 ∷ spelt "raw" ++ (9 ∷ spelt "physical" ++ (10 ∷ [])))))
