-- The fields as numbers in the order of the code's tables. Proofs of code go by it; no definition of what is read rests on it.
use Rattle.std.specs.Prelude.{ℕ, ◌+◌, List, [], ◌∷◌, map, length, get_or}
use Rattle.rows.specs.Row.{Row, Need}
use Rattle.rows.specs.Rows.{rows, needed}
use Rattle.rows.specs.Numbered.{row_at, need_at, Placed, all_params, param_at, start_number, first_param}

-- of a row and the number of its first parameter
abbrev pub row_numbers : Row → ℕ → List ℕ
row_numbers r n = r.parent ∷ r.word ∷ r.opens ∷ r.sec ∷ r.once ∷ r.when ∷ r.low ∷ r.high ∷ r.adds ∷ n ∷ []

-- of a parameter
abbrev pub param_numbers : Placed → List ℕ
param_numbers p = p.param.kind ∷ p.param.slot ∷ p.next ∷ p.sec ∷ []

-- of a parameter's limits
abbrev pub limit_numbers : Placed → List ℕ
limit_numbers p = p.param.low ∷ p.param.high ∷ []

-- of a need
abbrev pub need_numbers : Need → List ℕ
need_numbers n = n.block ∷ n.sec ∷ n.when ∷ n.low ∷ n.high ∷ n.slot ∷ n.least ∷ []

-- ---- the whole tables

abbrev pub rows_from : ℕ → List Row → List (List ℕ)
rows_from n [] = []
rows_from n (r ∷ rs) = row_numbers r (start_number n r.params) ∷ rows_from (n + length r.params) rs

unfoldable pub row_cells : List (List ℕ)
row_cells = rows_from 1 rows

unfoldable pub param_cells : List (List ℕ)
param_cells = map param_numbers all_params

unfoldable pub limit_cells : List (List ℕ)
limit_cells = map limit_numbers all_params

unfoldable pub need_cells : List (List ℕ)
need_cells = map need_numbers needed

-- ---- number f of row i, of parameter p, of its limits, of need i

abbrev pub row_cell : ℕ → ℕ → ℕ
row_cell i f = get_or (row_numbers (row_at i) (first_param i)) f 0

abbrev pub param_cell : ℕ → ℕ → ℕ
param_cell p f = get_or (param_numbers (param_at p)) f 0

abbrev pub limit_cell : ℕ → ℕ → ℕ
limit_cell p f = get_or (limit_numbers (param_at p)) f 0

abbrev pub need_cell : ℕ → ℕ → ℕ
need_cell i f = get_or (need_numbers (need_at i)) f 0
