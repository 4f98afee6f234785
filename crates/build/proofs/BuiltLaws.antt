-- The tables that are built: their cells, their counts and their rows.
--     built-encode      the rows put one after the other into cells of zeros are the cells of the tables
--     built-good        every row is as wide as its section, and no section has too many
--     count_head .. count_entries, slot-head .. slot-entry (slot-x, slot-y, slot-values for groups)    what stands in the tables
use Prim.Native.Nat.{ℕ, zero, suc, ◌+◌, ◌-◌, ◌*◌, ◌≤◌, ◌<◌, min}
use mathlib.Core.Path.{◌≡◌, refl, sym, ◌∙◌, ap}
use mathlib.Core.List.{List, [], ◌∷◌, ◌++◌}
use mathlib.Core.Bool.{Bool, true, false, cond, not, ◌&&◌}
use native.Mathlib.Omega.{arith}
use borrow.Author.Tests.{ltb-true, ltb-false}
use lib.Dec.{ltb, eqb}
use lib.ListN.{length, get_or, replicate, length-append, get_or-append}
use lib.Seq.{get_or-append-add}
use Rattle.number.specs.Most.{most_objects, most_methods, most_tables, most_entries, most_groups}
use Rattle.records.specs.Records.{records_of, count, slot, width_of, most_of, empty}
use Rattle.records.specs.Cells.{room, encode, section_in, count_in}
use Rattle.records.proofs.Encode.{Good, Wide, fit-few, none-good, none-encode}
use Rattle.rows.specs.Codes.{TAB-VERB}
use Rattle.rows.specs.Sections as records
use Rattle.rows.specs.Slots.{conversion_type}
use Rattle.grammar.specs.Move.{View, view, view_in}
use Rattle.tables.specs.Form.{table_sections, head_section, object_section, group_section, method_section, table_section, entry_section}
use Rattle.tables.specs.declared.setting.Setting.{Setting}
use Rattle.build.specs.Build.{rows_below, object_row, meaning, limit_cells, x_part, y_part, values_part, x_row, y_row, values_row, groups_below, table_number, verbal_row, fraction_row, method_row, table_row, entry_row, built}
use Rattle.build.specs.Row.{row_in, rows_in}
use Rattle.build.specs.declared.part.Known.{Known}
use Rattle.build.proofs.Encodes.{Fits, appended, get-last, good-rows, rows-encode}

-- ---- rows

pub rows_long : (n : ℕ) (f : ℕ → List ℕ) → length (rows_below n f) ≡ n
unfolding rows_below
rows_long zero f = refl
rows_long (suc n) f = length-append (rows_below n f) (f n ∷ []) ∙ omega (arith, rows_long n f)

wide-append : (w : ℕ) (a b : List (List ℕ)) → Wide w a → Wide w b → Wide w (a ++ b)
wide-append w [] b p q = q
wide-append w (r ∷ a) b p q = (p.0, wide-append w a b p.1 q)

rows-wide : (w : ℕ) (f : ℕ → List ℕ) → ((i : ℕ) → length (f i) ≡ w) → (n : ℕ) → Wide w (rows_below n f)
unfolding rows_below
rows-wide w f h zero = tt
rows-wide w f h (suc n) = wide-append w (rows_below n f) (f n ∷ []) (rows-wide w f h n) (h n, tt)

pub rows_at : (n : ℕ) (f : ℕ → List ℕ) (i : ℕ) → i < n → get_or (rows_below n f) i [] ≡ f i
unfolding rows_below
rows_at zero f i h = absurd (omega arith)
rows_at (suc n) f i h = by_place_lem (rows_at n f i) (ltb i n) refl where
  by_place_lem : (i < n → get_or (rows_below n f) i [] ≡ f i) → (b : Bool) → ltb i n ≡ b → get_or (rows_below n f ++ (f n ∷ [])) i [] ≡ f i
  by_place_lem ih true t =
      let l : i < n = ltb-true i n t in
      let m : i < length (rows_below n f) = rw (rows_long n f) l in
      get_or-append (rows_below n f) (f n ∷ []) [] i m ∙ ih l
  by_place_lem ih false t =
      let e : i ≡ n = omega (arith, ltb-false i n t) in
      let l : i ≡ length (rows_below n f) = e ∙ sym (rows_long n f) in
      ap (λ (k : ℕ). get_or (rows_below n f ++ (f n ∷ [])) k []) l ∙ get-last (rows_below n f) (f n) [] ∙ ap f (sym e)

-- ---- widths

cond-long : (b : Bool) (w : ℕ) (p q : List ℕ) → length p ≡ w → length q ≡ w → length (cond b p q) ≡ w
cond-long true w p q a b = a
cond-long false w p q a b = b

module _ (base : ℕ) (x : List ℕ) (v : View) (i : ℕ) (o : Known) where
  x-wide : length (x_part base x v i o) ≡ 19
  unfolding x_part meaning limit_cells
  x-wide = cond-long o.need.x.stored 19 _ _ refl refl

  y-wide : length (y_part base x v i o) ≡ 19
  unfolding y_part meaning limit_cells
  y-wide = cond-long o.need.y.stored 19 _ _ refl refl

  values-wide : length (values_part base x v i o) ≡ 19
  unfolding values_part meaning limit_cells
  values-wide = cond-long o.need.values 19 _ _ refl refl

method-wide : (x : List ℕ) (v : View) (i : ℕ) → length (method_row x v i) ≡ 10
unfolding method_row
method-wide x v i = cond-long (eqb (v.slots records.method i conversion_type) TAB-VERB && not (eqb (table_number x v i) 0)) 10 (verbal_row (table_number x v i)) (fraction_row v i) refl refl

-- ---- groups

module _ (image : List ℕ) (base : ℕ) (x : List ℕ) (v : View) where
  -- the three rows of object i
  abbrev three : ℕ → List (List ℕ)
  three i = x_row image base x v i ∷ y_row image base x v i ∷ values_row image base x v i ∷ []

  pub groups-long : (n : ℕ) → length (groups_below image base x v n) ≡ n * 3
  unfolding groups_below
  groups-long zero = refl
  groups-long (suc n) = length-append (groups_below image base x v n) (three n) ∙ omega (arith, groups-long n)

  groups-wide : (n : ℕ) → Wide 19 (groups_below image base x v n)
  unfolding groups_below
  groups-wide zero = tt
  groups-wide (suc n) = wide-append 19 (groups_below image base x v n) (three n) (groups-wide n) (x-wide base x v n _, (y-wide base x v n _, (values-wide base x v n _, tt)))

  groups-at : (n i k : ℕ) → k < 3 → i < n → get_or (groups_below image base x v n) (i * 3 + k) [] ≡ get_or (three i) k []
  unfolding groups_below
  groups-at zero i k hk h = absurd (omega arith)
  groups-at (suc n) i k hk h = by_place_lem (groups-at n i k hk) (ltb i n) refl where
    by_place_lem : (i < n → get_or (groups_below image base x v n) (i * 3 + k) [] ≡ get_or (three i) k []) → (b : Bool) → ltb i n ≡ b → get_or (groups_below image base x v n ++ three n) (i * 3 + k) [] ≡ get_or (three i) k []
    by_place_lem ih true t =
        let l : i < n = ltb-true i n t in
        let m : i * 3 + k < length (groups_below image base x v n) = omega (arith, groups-long n) in
        get_or-append (groups_below image base x v n) (three n) [] (i * 3 + k) m ∙ ih l
    by_place_lem ih false t =
        let e : i ≡ n = omega (arith, ltb-false i n t) in
        let l : i * 3 + k ≡ length (groups_below image base x v n) + k = omega (arith, groups-long n) in
        ap (λ (m : ℕ). get_or (groups_below image base x v n ++ three n) m []) l ∙ get_or-append-add (groups_below image base x v n) (three n) k [] ∙ ap (λ (m : ℕ). get_or (three m) k []) (sym e)

-- ---- no section has too many

-- the records that were read are within the capacities
pub record Within (v : View) : Type 0 where
  pub objects : v.counts records.object ≤ most_objects
  pub methods : v.counts records.method ≤ most_methods
  pub tables : v.counts records.table ≤ most_tables
  pub entries : v.counts records.entry ≤ most_entries

pub within_in : (t : List ℕ) → Within (view_in t)
unfolding count_in records.sections
within_in t = record { objects = omega arith; methods = omega arith; tables = omega arith; entries = omega arith }

pub within_of : (d : List (List (List ℕ))) → Good records.sections d → Within (view d)
unfolding records.sections
within_of d g =
    record {
      objects = fit-few records.sections d records.object g;
      methods = fit-few records.sections d records.method g;
      tables = fit-few records.sections d records.table g;
      entries = fit-few records.sections d records.entry g;
    }

module _ (image : List ℕ) (s : Setting) (x : List ℕ) (v : View) (e : ℕ) (w : Within v) where
  abbrev head_rows : List (List ℕ)
  head_rows = (s.edition ∷ 0 ∷ e ∷ []) ∷ []

  abbrev object_rows : List (List ℕ)
  object_rows = rows_below (v.counts records.object) (object_row v)

  abbrev group_rows : List (List ℕ)
  group_rows = groups_below image s.base x v (v.counts records.object)

  abbrev method_rows : List (List ℕ)
  method_rows = rows_below (v.counts records.method) (method_row x v)

  abbrev table_rows : List (List ℕ)
  table_rows = rows_below (v.counts records.table) (table_row v)

  abbrev entry_rows : List (List ℕ)
  entry_rows = rows_below (v.counts records.entry) (entry_row v)

  wide-objects : Wide 3 object_rows
  wide-objects = rows-wide 3 (object_row v) (λ i. refl) (v.counts records.object)

  wide-groups : Wide 19 group_rows
  wide-groups = groups-wide image s.base x v (v.counts records.object)

  wide-methods : Wide 10 method_rows
  wide-methods = rows-wide 10 (method_row x v) (method-wide x v) (v.counts records.method)

  wide-tables : Wide 4 table_rows
  wide-tables = rows-wide 4 (table_row v) (λ i. refl) (v.counts records.table)

  wide-entries : Wide 4 entry_rows
  wide-entries = rows-wide 4 (entry_row v) (λ i. refl) (v.counts records.entry)

  few-objects : length object_rows ≤ most_objects
  few-objects = omega (arith, w.objects, rows_long (v.counts records.object) (object_row v))

  few-groups : length group_rows ≤ most_groups
  few-groups = omega (arith, w.objects, groups-long image s.base x v (v.counts records.object))

  few-methods : length method_rows ≤ most_methods
  few-methods = omega (arith, w.methods, rows_long (v.counts records.method) (method_row x v))

  few-tables : length table_rows ≤ most_tables
  few-tables = omega (arith, w.tables, rows_long (v.counts records.table) (table_row v))

  few-entries : length entry_rows ≤ most_entries
  few-entries = omega (arith, w.entries, rows_long (v.counts records.entry) (entry_row v))

  pub built-good : Good table_sections (built image s x v e)
  unfolding table_sections built
  built-good =
      ((refl, tt), omega arith, (wide-objects, few-objects, (wide-groups, few-groups, (wide-methods, few-methods, (wide-tables, few-tables, (wide-entries, few-entries, refl))))))

  -- rows put into cells of zeros, section after section
  pub built-encode : (n : ℕ) → room table_sections ≤ n
      → rows_in (rows_in (rows_in (rows_in (rows_in (rows_in (replicate n 0) head_section head_rows) object_section object_rows) group_section group_rows) method_section method_rows) table_section table_rows) entry_section entry_rows ≡ encode table_sections n (built image s x v e)
  unfolding table_sections built
  built-encode n h =
      let d₀ : List (List (List ℕ)) = [] ∷ [] ∷ [] ∷ [] ∷ [] ∷ [] ∷ [] in
      let g₀ : Good table_sections d₀ = none-good table_sections in
      let f₀ : Fits d₀ head_section head_rows = record { there = omega arith; wide = (refl, tt); few = omega arith } in
      let d₁ : List (List (List ℕ)) = appended d₀ head_section head_rows in
      let g₁ : Good table_sections d₁ = good-rows d₀ head_section head_rows g₀ f₀ in
      let f₁ : Fits d₁ object_section object_rows = record { there = omega arith; wide = wide-objects; few = omega (arith, few-objects) } in
      let d₂ : List (List (List ℕ)) = appended d₁ object_section object_rows in
      let g₂ : Good table_sections d₂ = good-rows d₁ object_section object_rows g₁ f₁ in
      let f₂ : Fits d₂ group_section group_rows = record { there = omega arith; wide = wide-groups; few = omega (arith, few-groups) } in
      let d₃ : List (List (List ℕ)) = appended d₂ group_section group_rows in
      let g₃ : Good table_sections d₃ = good-rows d₂ group_section group_rows g₂ f₂ in
      let f₃ : Fits d₃ method_section method_rows = record { there = omega arith; wide = wide-methods; few = omega (arith, few-methods) } in
      let d₄ : List (List (List ℕ)) = appended d₃ method_section method_rows in
      let g₄ : Good table_sections d₄ = good-rows d₃ method_section method_rows g₃ f₃ in
      let f₄ : Fits d₄ table_section table_rows = record { there = omega arith; wide = wide-tables; few = omega (arith, few-tables) } in
      let d₅ : List (List (List ℕ)) = appended d₄ table_section table_rows in
      let g₅ : Good table_sections d₅ = good-rows d₄ table_section table_rows g₄ f₄ in
      let f₅ : Fits d₅ entry_section entry_rows = record { there = omega arith; wide = wide-entries; few = omega (arith, few-entries) } in
      ap (λ (u : List ℕ). rows_in (rows_in (rows_in (rows_in (rows_in (rows_in u head_section head_rows) object_section object_rows) group_section group_rows) method_section method_rows) table_section table_rows) entry_section entry_rows) (none-encode table_sections n h)
      ∙ ap (λ (u : List ℕ). rows_in (rows_in (rows_in (rows_in (rows_in u object_section object_rows) group_section group_rows) method_section method_rows) table_section table_rows) entry_section entry_rows) (rows-encode n d₀ head_section head_rows g₀ f₀)
      ∙ ap (λ (u : List ℕ). rows_in (rows_in (rows_in (rows_in u group_section group_rows) method_section method_rows) table_section table_rows) entry_section entry_rows) (rows-encode n d₁ object_section object_rows g₁ f₁)
      ∙ ap (λ (u : List ℕ). rows_in (rows_in (rows_in u method_section method_rows) table_section table_rows) entry_section entry_rows) (rows-encode n d₂ group_section group_rows g₂ f₂)
      ∙ ap (λ (u : List ℕ). rows_in (rows_in u table_section table_rows) entry_section entry_rows) (rows-encode n d₃ method_section method_rows g₃ f₃)
      ∙ ap (λ (u : List ℕ). rows_in u entry_section entry_rows) (rows-encode n d₄ table_section table_rows g₄ f₄)
      ∙ rows-encode n d₅ entry_section entry_rows g₅ f₅

  head_first : (u₀ u₁ : List ℕ) → u₁ ≡ row_in u₀ head_section (s.edition ∷ 0 ∷ e ∷ []) → u₁ ≡ rows_in u₀ head_section head_rows
  unfolding rows_in
  head_first u₀ u₁ p = p

  -- what the code does, call by call
  pub built-is : (u₀ u₁ u₂ u₃ u₄ u₅ u₆ : List ℕ) → u₀ ≡ replicate (length u₀) 0 → room table_sections ≤ length u₀ → u₁ ≡ row_in u₀ head_section (s.edition ∷ 0 ∷ e ∷ []) → u₂ ≡ rows_in u₁ object_section object_rows
      → u₃ ≡ rows_in u₂ group_section group_rows → u₄ ≡ rows_in u₃ method_section method_rows → u₅ ≡ rows_in u₄ table_section table_rows → u₆ ≡ rows_in u₅ entry_section entry_rows → u₆ ≡ encode table_sections (length u₀) (built image s x v e)
  built-is u₀ u₁ u₂ u₃ u₄ u₅ u₆ z h p₁ p₂ p₃ p₄ p₅ p₆ =
      p₆ ∙ rw (p₅, p₄, p₃, p₂, head_first u₀ u₁ p₁)
      (ap (λ (u : List ℕ). rows_in (rows_in (rows_in (rows_in (rows_in (rows_in u head_section head_rows) object_section object_rows) group_section group_rows) method_section method_rows) table_section table_rows) entry_section entry_rows) z
      ∙ built-encode (length u₀) h)

  -- ---- what stands in the tables

  pub count_head : count (built image s x v e) head_section ≡ 1
  unfolding built
  count_head = refl

  pub count-objects : count (built image s x v e) object_section ≡ v.counts records.object
  unfolding built
  count-objects = rows_long (v.counts records.object) (object_row v)

  pub count-groups : count (built image s x v e) group_section ≡ v.counts records.object * 3
  unfolding built
  count-groups = groups-long image s.base x v (v.counts records.object)

  pub count-methods : count (built image s x v e) method_section ≡ v.counts records.method
  unfolding built
  count-methods = rows_long (v.counts records.method) (method_row x v)

  pub count-tables : count (built image s x v e) table_section ≡ v.counts records.table
  unfolding built
  count-tables = rows_long (v.counts records.table) (table_row v)

  pub count_entries : count (built image s x v e) entry_section ≡ v.counts records.entry
  unfolding built
  count_entries = rows_long (v.counts records.entry) (entry_row v)

  pub slot-head : (k : ℕ) → slot (built image s x v e) head_section 0 k ≡ get_or (s.edition ∷ 0 ∷ e ∷ []) k 0
  unfolding built
  slot-head k = refl

  pub slot-object : (i k : ℕ) → i < v.counts records.object → slot (built image s x v e) object_section i k ≡ get_or (object_row v i) k 0
  unfolding built
  slot-object i k h = ap (λ (r : List ℕ). get_or r k 0) (rows_at (v.counts records.object) (object_row v) i h)

  pub slot-x : (i k : ℕ) → i < v.counts records.object → slot (built image s x v e) group_section (i * 3) k ≡ get_or (x_row image s.base x v i) k 0
  unfolding built
  slot-x i k h = let z : i * 3 ≡ i * 3 + 0 = omega arith in rw z (ap (λ (r : List ℕ). get_or r k 0) (groups-at image s.base x v (v.counts records.object) i 0 (omega arith) h))

  pub slot-y : (i k : ℕ) → i < v.counts records.object → slot (built image s x v e) group_section (i * 3 + 1) k ≡ get_or (y_row image s.base x v i) k 0
  unfolding built
  slot-y i k h = ap (λ (r : List ℕ). get_or r k 0) (groups-at image s.base x v (v.counts records.object) i 1 (omega arith) h)

  pub slot-values : (i k : ℕ) → i < v.counts records.object → slot (built image s x v e) group_section (i * 3 + 2) k ≡ get_or (values_row image s.base x v i) k 0
  unfolding built
  slot-values i k h = ap (λ (r : List ℕ). get_or r k 0) (groups-at image s.base x v (v.counts records.object) i 2 (omega arith) h)

  pub slot-method : (i k : ℕ) → i < v.counts records.method → slot (built image s x v e) method_section i k ≡ get_or (method_row x v i) k 0
  unfolding built
  slot-method i k h = ap (λ (r : List ℕ). get_or r k 0) (rows_at (v.counts records.method) (method_row x v) i h)

  pub slot-table : (i k : ℕ) → i < v.counts records.table → slot (built image s x v e) table_section i k ≡ get_or (table_row v i) k 0
  unfolding built
  slot-table i k h = ap (λ (r : List ℕ). get_or r k 0) (rows_at (v.counts records.table) (table_row v) i h)

  pub slot-entry : (i k : ℕ) → i < v.counts records.entry → slot (built image s x v e) entry_section i k ≡ get_or (entry_row v i) k 0
  unfolding built
  slot-entry i k h = ap (λ (r : List ℕ). get_or r k 0) (rows_at (v.counts records.entry) (entry_row v) i h)
