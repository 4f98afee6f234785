-- Rows put into the cells of the tables, for contracts of functions on the slice.
use Rattle.std.specs.Prelude.{ℕ, suc, ◌-◌, Bool, List, [], ◌∷◌}
use Rattle.records.specs.Cells.{section_in, count_in, put_in, add_in}
use Rattle.rows.specs.Sections.{layout}
use Rattle.grammar.specs.Move.{View}
use Rattle.tables.specs.Form.{table_sections}
use Rattle.build.specs.Build.{axis_walk}
use Rattle.build.specs.declared.part.Spot.{Spot}

-- numbers put into record i of section j from slot k on
unfoldable pub puts_at : List ℕ → ℕ → ℕ → ℕ → List ℕ → List ℕ
puts_at t j i k [] = t
puts_at t j i k (v ∷ vs) = puts_at (put_in t (section_in table_sections j) i k v) j i (suc k) vs

-- a record more in section j
abbrev pub opened : List ℕ → ℕ → List ℕ
opened t j = add_in t (section_in table_sections j)

-- a record more in section j, with these numbers
unfoldable pub row_in : List ℕ → ℕ → List ℕ → List ℕ
row_in t j vs = puts_at (opened t j) j (count_in t (section_in table_sections j)) 0 vs

-- row after row
unfoldable pub rows_in : List ℕ → ℕ → List (List ℕ) → List ℕ
rows_in t j [] = t
rows_in t j (r ∷ rs) = rows_in (row_in t j r) j rs

-- where an axis stands, with its index mode in slot k of layout l
unfoldable pub axis_spot : View → ℕ → Bool → ℕ → ℕ → ℕ → ℕ → ℕ → Spot
axis_spot v kind first place base cx l k = record { kind = kind; first = first; place = place - base; cx = cx; cy = 1; walk = axis_walk (v.slots layout l k) }
