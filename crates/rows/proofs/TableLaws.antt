-- The tables of numbers: each number is a field of its row, parameter or need, and past them every number is 0.
use Prim.Native.Nat.{ℕ, zero, suc, ◌+◌, ◌≤◌}
use mathlib.Core.Path.{◌≡◌, refl, sym, ◌∙◌, ap}
use mathlib.Core.List.{List, [], ◌∷◌}
use borrow.Author.Rules.{rules}
use lib.ListN.{length, get_or, replicate, get_or-eq_default, get_or-map}
use Rattle.rows.specs.Row.{Row}
use Rattle.rows.specs.Rows.{rows, needed}
use Rattle.rows.specs.Numbered.{no_row, row_at, no_need, need_at, no_param, all_params, param_at, starts_from, first_param}
use Rattle.rows.specs.Cells.{row_numbers, param_numbers, limit_numbers, need_numbers, rows_from, row_cells, param_cells, limit_cells, need_cells, row_cell, param_cell, limit_cell, need_cell}
use Rattle.rows.specs.declared.TheConstants.{ROWS, PARAMS, LIMITS, NEEDS}

pub row_count : length rows ≡ 45
unfolding rows
row_count = refl

pub need-count : length needed ≡ 9
unfolding needed
need-count = refl

-- ---- the code's tables are those of the specification

rows-are : ROWS ≡ row_cells
unfolding row_cells rows
rows-are = refl

params-are : PARAMS ≡ param_cells
unfolding param_cells all_params rows
params-are = refl

limits-are : LIMITS ≡ limit_cells
unfolding limit_cells all_params rows
limits-are = refl

needs-are : NEEDS ≡ need_cells
unfolding need_cells needed
needs-are = refl

-- ---- a number of a table is a field of its row

-- number f of row i of a table; past its numbers and its rows every number is 0
abbrev cell_in : List (List ℕ) → ℕ → ℕ → ℕ
cell_in t i f = get_or (get_or t i []) f 0

zeros : (n f : ℕ) → get_or {A = ℕ} (replicate n 0) f 0 ≡ 0
zeros zero f = refl
zeros (suc n) zero = refl
zeros (suc n) (suc f) = zeros n f

-- past a table's rows a row is empty, or of so many zeros: its numbers are 0 either way
past-rows : (n f : ℕ) (t : List (List ℕ)) (i : ℕ) → cell_in t i f ≡ get_or (get_or t i (replicate n 0)) f 0
past-rows n f [] i = sym (zeros n f)
past-rows n f (r ∷ t) zero = refl
past-rows n f (r ∷ t) (suc i) = past-rows n f t i

-- the numbers of row i
rows_are : (n : ℕ) (rs : List Row) (i : ℕ) → get_or (rows_from n rs) i (replicate 10 0) ≡ row_numbers (get_or rs i no_row) (get_or (starts_from n rs) i 0)
rows_are n [] i = refl
rows_are n (r ∷ rs) zero = refl
rows_are n (r ∷ rs) (suc i) = rows_are (n + length r.params) rs i

-- r is a row of numbers
module _ (i f : ℕ) (r : List ℕ) where
  pub row_number : r ≡ get_or row_cells i (replicate 10 0) → get_or r f 0 ≡ row_cell i f
  unfolding row_cells row_at first_param
  row_number e = ap (λ l. get_or l f 0) (e ∙ rows_are 1 rows i)

  pub param-number : r ≡ get_or param_cells i (replicate 4 0) → get_or r f 0 ≡ param_cell i f
  unfolding param_cells param_at
  param-number e = ap (λ l. get_or l f 0) (e ∙ get_or-map param_numbers all_params i no_param)

  pub limit-number : r ≡ get_or limit_cells i (replicate 2 0) → get_or r f 0 ≡ limit_cell i f
  unfolding limit_cells param_at
  limit-number e = ap (λ l. get_or l f 0) (e ∙ get_or-map limit_numbers all_params i no_param)

  pub need-number : r ≡ get_or need_cells i (replicate 7 0) → get_or r f 0 ≡ need_cell i f
  unfolding need_cells need_at
  need-number e = ap (λ l. get_or l f 0) (e ∙ get_or-map need_numbers needed i no_need)

-- past a row's numbers every number is 0
module _ (i f : ℕ) where
  pub row-beside : 10 ≤ f → 0 ≡ row_cell i f
  row-beside h = sym (get_or-eq_default (row_numbers (row_at i) (first_param i)) 0 h)

  pub param-beside : 4 ≤ f → 0 ≡ param_cell i f
  param-beside h = sym (get_or-eq_default (param_numbers (param_at i)) 0 h)

  pub limit-beside : 2 ≤ f → 0 ≡ limit_cell i f
  limit-beside h = sym (get_or-eq_default (limit_numbers (param_at i)) 0 h)

  pub need-beside : 7 ≤ f → 0 ≡ need_cell i f
  need-beside h = sym (get_or-eq_default (need_numbers (need_at i)) 0 h)

-- n is what the code looked up
module _ (i f n : ℕ) where
  pub row_cell_is : n ≡ cell_in ROWS i f → n ≡ row_cell i f
  row_cell_is e = e ∙ ap (λ t. cell_in t i f) rows-are ∙ past-rows 10 f row_cells i ∙ row_number i f (get_or row_cells i (replicate 10 0)) refl

  pub param-cell-is : n ≡ cell_in PARAMS i f → n ≡ param_cell i f
  param-cell-is e = e ∙ ap (λ t. cell_in t i f) params-are ∙ past-rows 4 f param_cells i ∙ param-number i f (get_or param_cells i (replicate 4 0)) refl

  pub limit-cell-is : n ≡ cell_in LIMITS i f → n ≡ limit_cell i f
  limit-cell-is e = e ∙ ap (λ t. cell_in t i f) limits-are ∙ past-rows 2 f limit_cells i ∙ limit-number i f (get_or limit_cells i (replicate 2 0)) refl

  pub need-cell-is : n ≡ cell_in NEEDS i f → n ≡ need_cell i f
  need-cell-is e = e ∙ ap (λ t. cell_in t i f) needs-are ∙ past-rows 7 f need_cells i ∙ need-number i f (get_or need_cells i (replicate 7 0)) refl

pub ruleset tables = (row_cell_is, param-cell-is, limit-cell-is, need-cell-is, rules)
