-- THE SECOND DEMAND, under TAB_VERB: what the tables of an accepted load say of a raw number is what the description's COMPU_VTAB says.
--     verbal-held     a method with TAB_VERB keeps its table
--     table-text      and the table its entries and its default text
use Prim.Native.Nat.{ℕ, zero, suc, ◌+◌, ◌-◌, ◌≤◌, ◌<◌, min}
use mathlib.Core.Path.{◌≡◌, refl, sym, ◌∙◌, ap}
use mathlib.Core.List.{List}
use mathlib.Core.Bool.{true}
use native.Mathlib.Omega.{arith}
use borrow.Author.Tests.{eq-eqb, ne_eqb}
use lib.Dec.{eqb}
use lib.IntN.{ℤ}
use lib.ListN.{length, get_or}
use Rattle.convert.specs.Fraction.{Value}
use Rattle.convert.specs.Verbal.{default_of}
use Rattle.records.specs.Records.{count, slot}
use Rattle.rows.specs.Codes.{TAB-VERB}
use Rattle.rows.specs.Sections.{method, table, entry}
use Rattle.rows.specs.Slots.{first_held, conversion_type, default_value, default_value_past, entry_sign, entry_text, entry_text_past}
use Rattle.grammar.specs.Move.{view}
use Rattle.tables.specs.declared.setting.Setting.{Setting}
use Rattle.build.specs.Build.{table_number, verbal_row, method_row, entries_end, table_row, entry_row}
use Rattle.build.proofs.BuiltLaws.{count-tables, count_entries, slot-method, slot-table, slot-entry}
use Rattle.tables.specs.Form.{method_section, table_section, entry_section, conversion_cell, table_cell, first_entry_cell, entries_cell, default_cell, default_past_cell, Tables, tables_in, method_of}
use Rattle.tables.proofs.Reading.{entries_below}
use Rattle.look.specs.Calls.{is_tab_verb}
use Rattle.tree.specs.Tree.{Records}
use Rattle.demands.specs.Rules.{Fits, Keeps}
use Rattle.demands.specs.Value.{TextBy, by_entry, by_other, number_entry, TableText}
use Rattle.demands.proofs.Loaded as loaded
use Rattle.demands.proofs.Verbal.{number_at, TableSays}

-- where two rows of entries have the same numbers and texts, they say the same
said-so : (number number' : ℕ → ℤ) (from from' past past' : ℕ → ℕ) (first end end' : ℕ) (other : Value) (z : ℤ) (w : Value)
    → ((e : ℕ) → first ≤ e → e < end → (number e ≡ number' e) × (from e ≡ from' e) × (past e ≡ past' e))
    → ((e : ℕ) → first ≤ e → e < end → e < end') → ((e : ℕ) → first ≤ e → e < end' → e < end)
    → TextBy number from past first end other z w → TextBy number' from' past' first end' other z w
said-so number number' from from' past past' first end end' other z w s f g (by_entry e l k q h) =
    rw ((s e l k).1, (s e l k).2) (by_entry e l (f e l k) (sym (s e l k).0 ∙ q) (λ i a b c. h i a b ((s i a (omega arith)).0 ∙ c)))
said-so number number' from from' past past' first end end' other z w s f g (by_other h) = by_other (λ e l k c. h e l (g e l k) ((s e l (g e l k)).0 ∙ c))

-- a sign's cell is 0 or 1
sign-cell : (a : ℕ) → eqb (min a 1) 0 ≡ eqb a 0
sign-cell zero = refl
sign-cell (suc a) = let e : min (suc a) 1 ≡ 1 = omega arith in rw (e, ne_eqb (suc a) 0 (λ z. omega arith))

module _ (x image : List ℕ) (setting : Setting) (lent work : List ℕ) (f : Fits x image setting lent work) (k : Keeps x image setting.base) where
  abbrev d : Records
  d = k.records

  abbrev n : ℕ
  n = loaded.elements x image setting lent work f k

  abbrev T : Tables
  T = tables_in (loaded.t x image setting lent work f k)

  slot_is : (j i c : ℕ) → T.slots j i c ≡ slot (loaded.made x image setting lent work f k) j i c
  slot_is j i c = ap (λ (S : Tables). S.slots j i c) (loaded.same x image setting lent work f k)

  -- ---- a method with TAB_VERB
  method-is : (m s : ℕ) → m < count d method → slot d method m conversion_type ≡ TAB-VERB → table_number x (view d) m ≡ suc s → (c : ℕ) → T.slots method_section m c ≡ get_or (verbal_row (suc s)) c 0
  unfolding method_row
  method-is m s l v u c =
      slot_is method_section m c
      ∙ (rw (eq-eqb (slot d method m conversion_type) TAB-VERB v, u, ne_eqb (suc s) 0 (λ z. omega arith)) at (slot-method image setting x (view d) n (loaded.within x image setting lent work f k) m c l))

  -- a group whose method it is has a verbal table, which is s
  pub verbal-held : (g m s : ℕ) → m < count d method → slot d method m conversion_type ≡ TAB-VERB → table_number x (view d) m ≡ suc s → method_of T g ≡ suc m
      → (is_tab_verb T g ≡ true) × (T.slots method_section (method_of T g - 1) table_cell - 1 ≡ s)
  unfolding is_tab_verb
  verbal-held g m s l v u e =
      let o : suc m - 1 ≡ m = omega arith in
      let p : suc s - 1 ≡ s = omega arith in
      (rw (e, o, method-is m s l v u conversion_cell, ne_eqb (suc m) 0 (λ z. omega arith)) refl, rw (e, o, method-is m s l v u table_cell) p)

  -- ---- its table
  module _ (s : ℕ) (l : s < count d table) where
    table_is : (c : ℕ) → T.slots table_section s c ≡ get_or (table_row (view d) s) c 0
    table_is c = slot_is table_section s c ∙ slot-table image setting x (view d) n (loaded.within x image setting lent work f k) s c l

    entry-is : (e : ℕ) → e < count d entry → (c : ℕ) → T.slots entry_section e c ≡ get_or (entry_row (view d) e) c 0
    entry-is e h c = slot_is entry_section e c ∙ slot-entry image setting x (view d) n (loaded.within x image setting lent work f k) e c h

    number_is : (e : ℕ) → e < count d entry → number_at T e ≡ number_entry x (view d) e
    number_is e h = rw (entry-is e h 0, entry-is e h 1, sign-cell (slot d entry e entry_sign))

    below : T.slots table_section s first_entry_cell + T.slots table_section s entries_cell ≤ count d entry
    below =
        let b = entries_below (length x) (length image) (loaded.t x image setting lent work f k) (loaded.keeps-rule x image setting lent work f k) s
        (rw (ap (λ (S : Tables). S.counts table_section) (loaded.same x image setting lent work f k) ∙ count-tables image setting x (view d) n (loaded.within x image setting lent work f k)) l) in
        let c : T.counts entry_section ≡ count d entry =
        ap (λ (S : Tables). S.counts entry_section) (loaded.same x image setting lent work f k) ∙ count_entries image setting x (view d) n (loaded.within x image setting lent work f k) in
        omega arith

    pub table-text : (z : ℤ) (w : Value) → TableSays T s z w → TableText x (view d) s z w
    table-text z w h =
        said-so (number_at T) (number_entry x (view d)) (λ e. T.slots entry_section e 2) (λ e. slot d entry e entry_text) (λ e. T.slots entry_section e 3) (λ e. slot d entry e entry_text_past)
        first (first + many) (entries_end (view d) s) (default_of (slot d table s default_value) (slot d table s default_value_past)) z w
        (λ e a b. let c : e < count d entry = omega (arith, below, table_is first_entry_cell, table_is entries_cell) in (number_is e c, entry-is e c 2, entry-is e c 3))
        (λ e a b. omega arith) (λ e a b. omega arith)
        (rw (table_is first_entry_cell, table_is entries_cell, table_is default_cell, table_is default_past_cell) at h)
      where
        first : ℕ
        first = slot d table s first_held

        many : ℕ
        many = entries_end (view d) s - slot d table s first_held
