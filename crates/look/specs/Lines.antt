-- A column of the value list: a line for each element of each group, groups in order, laid over the front of lent memory.
-- c says how many elements each group has, n how many groups there are.
use Rattle.std.specs.Prelude.{ℕ, zero, suc, ◌+◌, List, [], ◌∷◌, ◌++◌, Bool, cond, length, get_or, drop}
use Rattle.number.specs.Below.{sum_below}

module _ {A : Type 0} where
  -- the first so many lines of group g, the first of them at line k: f says what stands at a group, an index and a line
  unfoldable pub part : (ℕ → ℕ → ℕ → A) → ℕ → ℕ → ℕ → List A
  part f g k zero = []
  part f g k (suc i) = part f g k i ++ (f g i (k + i) ∷ [])

  -- the lines of the groups below g
  unfoldable pub lines : (ℕ → ℕ → ℕ → A) → (ℕ → ℕ) → ℕ → List A
  lines f c zero = []
  lines f c (suc g) = lines f c g ++ part f g (sum_below g c) (c g)

  -- xs laid over the front of ys: "Room past the used entries is untouched"
  unfoldable pub laid_over : List A → List A → List A
  laid_over xs ys = xs ++ drop (length xs) ys

  -- a column made anew: w says what stands at an element
  unfoldable pub made : (ℕ → ℕ → A) → (ℕ → ℕ) → ℕ → List A → List A
  made w c n l = laid_over (lines (λ g i k. w g i) c n) l

  -- what stands at an element and its line k: worked out afresh where s says so, else as in l
  abbrev pub keep : (ℕ → ℕ → Bool) → (ℕ → ℕ → A) → A → List A → ℕ → ℕ → ℕ → A
  keep s w d l g i k = cond (s g i) (w g i) (get_or l k d)

  -- a column with the lines that s picks worked out afresh, "whatever those lines held, and no other"
  unfoldable pub fresh : (ℕ → ℕ → Bool) → (ℕ → ℕ → A) → A → (ℕ → ℕ) → ℕ → List A → List A
  fresh s w d c n l = laid_over (lines (keep s w d l) c n) l
