-- How numbers and parts of a text are printed.
use Rattle.std.specs.Prelude.{ℕ, zero, suc, ◌+◌, ◌-◌, ◌/◌, ◌%◌, List, [], ◌∷◌, ◌++◌, cond, ltb, ℤ, pos, negsuc, take, drop}

-- the decimal figures of a number, of at most f of them
unfoldable pub figures_of : ℕ → ℕ → List ℕ
figures_of zero n = []
figures_of (suc f) n = cond (ltb n 10) ((48 + n) ∷ []) (figures_of f (n / 10) ++ ((48 + n % 10) ∷ []))

-- (twenty are enough for every number of 64 bits)
abbrev pub figures : ℕ → List ℕ
figures n = figures_of 20 n

-- a number, with a minus before its figures where it is below zero
abbrev pub signed : ℤ → List ℕ
signed (pos n) = figures n
signed (negsuc n) = 45 ∷ figures (suc n)

-- the bytes of a text from a up to e
abbrev pub slice : List ℕ → ℕ → ℕ → List ℕ
slice x a e = take (e - a) (drop a x)
