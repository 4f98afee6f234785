-- THE SECOND DEMAND: "its physical value is the exact fraction or text, or none", under TAB_VERB.
--     value-verbal     for tables that keep the rule
use Prim.Native.Nat.{ℕ, zero, suc, ◌+◌, ◌-◌, ◌^◌, ◌≤◌, ◌<◌, min}
use mathlib.Core.Path.{◌≡◌, refl, subst}
use mathlib.Core.List.{List}
use mathlib.Core.Bool.{Bool, true, false, cond, not}
use native.Mathlib.Omega.{arith}
use borrow.Author.Tests.{not-true, eqb-true, eqb-false, lt-ltb}
use lib.Dec.{eqb}
use lib.IntN.{ℤ}
use Rattle.records.specs.Cells.{count_in}
use Rattle.number.specs.Most.{most_entries}
use Rattle.convert.specs.Whole.{eq_z}
use Rattle.convert.specs.Fraction.{Value, text}
use Rattle.convert.specs.Verbal.{text_of, default_of, place_in, entry_of, entries_from, verbal_of}
use Rattle.text.proofs.Within.{and_left, and_right}
use Rattle.tables.specs.Form.{method_section, table_section, entry_section, table_sections, conversion_cell, table_cell, first_entry_cell, entries_cell, default_cell, default_past_cell, text_cell, text_past_cell, Tables, tables_in, method_of}
use Rattle.tables.specs.Rule.{is_verbal, keeps_rule}
use Rattle.tables.proofs.Reading.{method-below, verbal-below, entries_below, entry-inside, default-inside}
use Rattle.look.specs.Element.{text_at, means_by, means}
use Rattle.look.specs.Calls.{groups, is_tab_verb}
use Rattle.demands.specs.Value.{TextBy, by_entry, by_other}
use Rattle.demands.proofs.Equals.{eq_z-is, eq_z-not}

-- ---- the entries
small-place : (n : ℕ) → n < 2 ^ 63 → place_in n ≡ n
small-place n h = rw (lt-ltb n (2 ^ 63) h)

-- the first of a row, and those after it
from_first : (P : ℕ → Type 0) (f i : ℕ) → f ≤ i → P f → (suc f ≤ i → P i) → P i
from_first P f i l h g = by-case (eqb f i) refl
  where
    by-case : (b : Bool) → eqb f i ≡ b → P i
    by-case true e = subst P (eqb-true f i e) h
    by-case false e = let o = eqb-false f i e in g (omega arith)

module _ (T : Tables) where
  -- entry f of the tables, and its number
  abbrev at : ℕ → ℕ → ℕ
  at f = T.slots entry_section f

  abbrev pub number_at : ℕ → ℤ
  number_at f = (entry_of (at f)).number

  -- what the entries from one up to another say
  abbrev pub Says : ℕ → ℕ → Value → ℤ → Value → Type 0
  Says = TextBy number_at (λ f. at f text_cell) (λ f. at f text_past_cell)

  -- the entries of a table have places that a text has
  abbrev Places : ℕ → ℕ → Type 0
  Places f many = (i : ℕ) → f ≤ i → i < f + many → (at i text_cell < 2 ^ 63) × (at i text_past_cell < 2 ^ 63)

  here : (z : ℤ) (other : Value) (f n : ℕ) → (at f text_cell < 2 ^ 63) × (at f text_past_cell < 2 ^ 63) → number_at f ≡ z
      → Says f (f + suc n) other z (text (entry_of (at f)).first (entry_of (at f)).past)
  here z other f n p e = rw (small-place (at f text_cell) p.0, small-place (at f text_past_cell) p.1) (by_entry f (omega arith) (omega arith) e (λ i l k. absurd (omega arith)))

  -- an entry before the others, with another number
  later : (z : ℤ) (other : Value) (f n : ℕ) (v : Value) → (number_at f ≡ z → ⊥) → Says (suc f) (suc f + n) other z v → Says f (f + suc n) other z v
  later z other f n v h (by_entry e l k q g) = by_entry e (omega arith) (omega arith) q (λ i a b. from_first (λ (j : ℕ). number_at j ≡ z → ⊥) f i a h (λ c. g i c b))
  later z other f n v h (by_other g) = by_other (λ i a b. from_first (λ (j : ℕ). number_at j ≡ z → ⊥) f i a h (λ c. g i c (omega arith)))

  entries-say : (z : ℤ) (other : Value) (many f : ℕ) → Places f many → Says f (f + many) other z (text_of (entries_from at f many) other z)
  unfolding text_of entries_from
  entries-say z other zero f p = by_other (λ i a b. absurd (omega arith))
  entries-say z other (suc n) f p = go (eq_z (entry_of (at f)).number z) refl (entries-say z other n (suc f) (λ i a b. p i (omega arith) (omega arith)))
    where
      go : (b : Bool) → eq_z (entry_of (at f)).number z ≡ b → Says (suc f) (suc f + n) other z (text_of (entries_from at (suc f) n) other z)
          → Says f (f + suc n) other z (cond b (text (entry_of (at f)).first (entry_of (at f)).past) (text_of (entries_from at (suc f) n) other z))
      go true e r = here z other f n (p f (omega arith) (omega arith)) (eq_z-is (entry_of (at f)).number z e)
      go false e r = later z other f n (text_of (entries_from at (suc f) n) other z) (eq_z-not (entry_of (at f)).number z e) r

  -- what verbal table s says
  abbrev pub TableSays : ℕ → ℤ → Value → Type 0
  TableSays s =
      Says (T.slots table_section s first_entry_cell) (T.slots table_section s first_entry_cell + T.slots table_section s entries_cell)
      (default_of (T.slots table_section s default_cell) (T.slots table_section s default_past_cell))

-- no section has more records than it has room for
few-entries : (t : List ℕ) → (tables_in t).counts entry_section ≤ most_entries
unfolding count_in table_sections
few-entries t = omega arith

module _ (n m : ℕ) (t : List ℕ) (rule : keeps_rule n m t ≡ true) (short : n ≤ 2 ^ 24) where
  -- verbal table s
  table-says : (s : ℕ) (z : ℤ) → s < (tables_in t).counts table_section → TableSays (tables_in t) s z (text_at (tables_in t) s z)
  unfolding text_at verbal_of
  table-says s z l =
      let T = tables_in t in
      let b = entries_below n m t rule s l in
      let c = few-entries t in
      let d = default-inside n m t rule s l in
      let w : min (T.slots table_section s entries_cell) most_entries ≡ T.slots table_section s entries_cell = omega arith in
      let p : place_in (T.slots table_section s default_cell) ≡ T.slots table_section s default_cell = small-place (T.slots table_section s default_cell) (omega (arith, d.0, d.1)) in
      let q : place_in (T.slots table_section s default_past_cell) ≡ T.slots table_section s default_past_cell = small-place (T.slots table_section s default_past_cell) (omega (arith, d.1)) in
      rw (w, p, q)
      (entries-say T z (default_of (T.slots table_section s default_cell) (T.slots table_section s default_past_cell)) (T.slots table_section s entries_cell) (T.slots table_section s first_entry_cell)
      (λ i a e. let k = entry-inside n m t rule i (omega arith) in (omega (arith, k.0, k.1), omega (arith, k.1))))

  -- what a raw number means under TAB_VERB is what the method's table says of it
  pub value-verbal : (g : ℕ) → g < groups t → is_tab_verb (tables_in t) g ≡ true → (z : ℤ)
      → TableSays (tables_in t) ((tables_in t).slots method_section (method_of (tables_in t) g - 1) table_cell - 1) z (means (tables_in t) g z)
  unfolding means means_by is_tab_verb
  value-verbal g l v z =
      let T = tables_in t in
      let a = not (eqb (method_of T g) 0) in
      let b = is_verbal (T.slots method_section (method_of T g - 1) conversion_cell) in
      let f : eqb (method_of T g) 0 ≡ false = not-true (eqb (method_of T g) 0) (and_left a b v) in
      let r : b ≡ true = and_right a b v in
      let o : method_of T g ≡ 0 → ⊥ = eqb-false (method_of T g) 0 f in
      let k = verbal-below n m t rule (method_of T g - 1) (omega (arith, method-below n m t rule g l)) (eqb-true (T.slots method_section (method_of T g - 1) conversion_cell) 22 r) in
      rw (f, r) (table-says (T.slots method_section (method_of T g - 1) table_cell - 1) z (omega (arith, k.0, k.1)))
