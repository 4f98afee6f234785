-- Tables in cells: what can be asked of the cells is what can be asked of the records, and cells made of ruled records keep the rule.
use Prim.Native.Nat.{ℕ, suc, ◌+◌, ◌-◌, ◌*◌, ◌≤◌, ◌<◌}
use mathlib.Core.Path.{◌≡◌, ap, ap₂, ◌∙◌}
use mathlib.Core.List.{List, []}
use mathlib.Core.Bool.{true, ◌&&◌}
use native.Mathlib.Omega.{arith}
use native.Mathlib.Nat.{add-zero}
use borrow.Author.Tests.{le-leb, eq-eqb}
use lib.ListN.{length, get_or, replicate}
use lib.Seq.{get_or-append-add}
use Rattle.records.specs.Records.{count, width_of, most_of}
use Rattle.records.specs.Cells.{joined, base_in, room, encode}
use Rattle.records.proofs.Encode.{Good, count-encode, slot-encode, get-part, zeros, length-joined, fit_wide, fit-few}
use Rattle.tables.specs.Form.{table_sections, Tables, tables_of, tables_in}
use Rattle.tables.specs.Rule.{count_fits, unused_zero, form_rule, ruled, keeps_rule}
use Rattle.tables.proofs.All.{both, all_of}
use Rattle.tables.proofs.LoopLaws.{formed_at, clear_at}

pub tables-encode : (n : ℕ) (d : List (List (List ℕ))) → Good table_sections d → tables_in (encode table_sections n d) ≡ tables_of d
tables-encode n d g i = record { counts = λ j. count-encode table_sections n d g j i; slots = λ j a k. slot-encode table_sections n d g j a k i }

module _ (n : ℕ) (d : List (List (List ℕ))) (g : Good table_sections d) (j : ℕ) (l : j < length table_sections) where
  -- a section's first cell counts its records
  first_cell : get_or (encode table_sections n d) (base_in table_sections j) 0 ≡ count d j
  unfolding encode
  first_cell = rw (← add-zero (base_in table_sections j)) (get-part (replicate (n - room table_sections) 0) table_sections d j 0 g l (omega arith))

  -- the cells past its records are zeros
  rest-cell : (k : ℕ) → k < width_of table_sections j * most_of table_sections j - width_of table_sections j * count d j
      → ◌≡◌ {A = ℕ} (get_or (encode table_sections n d) (base_in table_sections j + (1 + width_of table_sections j * count d j) + k) 0) 0
  unfolding encode
  rest-cell k h =
      let w : ℕ = width_of table_sections j in
      let f : length (joined (get_or d j [])) ≡ width_of table_sections j * count d j = length-joined (width_of table_sections j) (get_or d j []) (fit_wide table_sections d j g) in
      let e : base_in table_sections j + (1 + width_of table_sections j * count d j) + k ≡ base_in table_sections j + suc (length (joined (get_or d j [])) + k) = omega arith in
      rw e
      (get-part (replicate (n - room table_sections) 0) table_sections d j (suc (length (joined (get_or d j [])) + k)) g l (omega arith)
      ∙ get_or-append-add (joined (get_or d j [])) (replicate (width_of table_sections j * most_of table_sections j - width_of table_sections j * count d j) 0) k 0
      ∙ zeros (width_of table_sections j * most_of table_sections j - width_of table_sections j * count d j) k)

  count_kept : count_fits (encode table_sections n d) j ≡ true
  unfolding count_fits
  count_kept = rw first_cell (le-leb (count d j) (most_of table_sections j) (fit-few table_sections d j g))

  unused-kept : unused_zero (encode table_sections n d) j ≡ true
  unfolding unused_zero
  unused-kept = rw (count-encode table_sections n d g j)
      (all_of (width_of table_sections j * most_of table_sections j - width_of table_sections j * count d j) (clear_at (encode table_sections n d) (base_in table_sections j + (1 + width_of table_sections j * count d j)))
      (λ k h. eq-eqb _ 0 (rest-cell k h)))

-- the form is kept, and so the table rule is what it says of the records
pub encode-rule : (n m k : ℕ) (d : List (List (List ℕ))) → Good table_sections d → room table_sections ≤ k → keeps_rule n m (encode table_sections k d) ≡ ruled (tables_of d) n m
unfolding keeps_rule form_rule
encode-rule n m k d g h =
    ap₂ ◌&&◌
    (all_of (length table_sections) (formed_at (encode table_sections k d)) (λ j l. both (count_fits (encode table_sections k d) j) (unused_zero (encode table_sections k d) j) (count_kept k d g j l) (unused-kept k d g j l)))
    (ap (λ (T : Tables). ruled T n m) (tables-encode k d g))

pub encode-keeps : (n m k : ℕ) (d : List (List (List ℕ))) → Good table_sections d → room table_sections ≤ k → ruled (tables_of d) n m ≡ true → keeps_rule n m (encode table_sections k d) ≡ true
encode-keeps n m k d g h r = encode-rule n m k d g h ∙ r
