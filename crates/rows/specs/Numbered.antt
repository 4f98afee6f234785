-- The rows and the needs by their numbers, and the parameters, which are numbered from 1 through all rows; parameter 0 is none.
use Rattle.std.specs.Prelude.{ℕ, suc, ◌+◌, List, [], ◌∷◌, ◌++◌, length, get_or}
use Rattle.rows.specs.Row.{Param, param, Row, Need}
use Rattle.rows.specs.Rows.{rows, needed, keeps}

-- past the last number: nothing but zeros
abbrev pub no_row : Row
no_row = record { parent = 0; word = 0; opens = 0; sec = 0; once = 0; when = 0; low = 0; high = 0; adds = 0; params = [] }

abbrev pub no_need : Need
no_need = record { block = 0; sec = 0; when = 0; low = 0; high = 0; slot = 0; least = 0 }

-- row i
unfoldable pub row_at : ℕ → Row
row_at i = get_or rows i no_row

-- need i
unfoldable pub need_at : ℕ → Need
need_at i = get_or needed i no_need

-- a parameter in its row: the section of the record that it goes to, and the number of the parameter after it
pub record Placed : Type 0 where
  pub param : Param
  pub sec : ℕ
  pub next : ℕ

-- the parameters of a row that keeps them in section j; the first has the number n
abbrev pub placed_from : ℕ → ℕ → List Param → List Placed
placed_from n j [] = []
placed_from n j (p ∷ []) = record { param = p; sec = j; next = 0 } ∷ []
placed_from n j (p ∷ (q ∷ ps)) = record { param = p; sec = j; next = suc n } ∷ placed_from (suc n) j (q ∷ ps)

-- those of the rows from one on
abbrev pub placed_in : ℕ → List Row → List Placed
placed_in n [] = []
placed_in n (r ∷ rs) = placed_from n (keeps r) r.params ++ placed_in (n + length r.params) rs

abbrev pub no_param : Placed
no_param = record { param = param 0 0 0 0; sec = 0; next = 0 }

-- all, from number 0 on
unfoldable pub all_params : List Placed
all_params = no_param ∷ placed_in 1 rows

-- parameter p
unfoldable pub param_at : ℕ → Placed
param_at p = get_or all_params p no_param

-- the number of each row's first parameter
abbrev pub start_number : ℕ → List Param → ℕ
start_number n [] = 0
start_number n (p ∷ ps) = n

abbrev pub starts_from : ℕ → List Row → List ℕ
starts_from n [] = []
starts_from n (r ∷ rs) = start_number n r.params ∷ starts_from (n + length r.params) rs

-- that of row i
unfoldable pub first_param : ℕ → ℕ
first_param i = get_or (starts_from 1 rows) i 0
