-- THE SECOND DEMAND: "its physical value is the exact fraction or text, or none", by the conversion that the description names.
--     value-by     what the raw number of an element of an accepted load means
--     asked_by     and what a physical write to it is asked by
use Prim.Native.Nat.{ℕ, ◌-◌, ◌<◌}
use mathlib.Core.Path.{◌≡◌, refl, sym, ◌∙◌, ap, subst}
use mathlib.Core.List.{List}
use mathlib.Core.Bool.{Bool, true, false, false≢true}
use mathlib.Core.Logic.{inl, inr}
use native.Mathlib.Omega.{arith}
use borrow.Author.Tests.{eqb-true, eqb-false}
use lib.Dec.{eqb}
use lib.IntN.{ℤ}
use lib.ListN.{length, get_or}
use Rattle.convert.specs.Fraction.{fraction}
use Rattle.convert.specs.Method.{identical_of}
use Rattle.convert.specs.declared.method.Coefficients.{Coefficients}
use Rattle.records.specs.Records.{count, slot}
use Rattle.rows.specs.Codes.{TAB-VERB}
use Rattle.rows.specs.Sections.{method, table, object}
use Rattle.rows.specs.Slots.{conversion_type, compu_tab_ref, compu_tab_ref_past}
use Rattle.grammar.specs.Move.{view}
use Rattle.refer.specs.Refer.{row, inner_rows, reference_rows, is_free}
use Rattle.methods.specs.Methods.{coefficients}
use Rattle.objects.specs.Object.{need_of}
use Rattle.tables.specs.declared.setting.Setting.{Setting}
use Rattle.build.specs.Build.{method_in}
use Rattle.tables.specs.Form.{method_section, table_cell, tables_in, method_of}
use Rattle.tables.specs.Group.{group_of}
use Rattle.tree.specs.Tree.{Records}
use Rattle.keeps.specs.Stands.{Part, number_of, needed}
use Rattle.look.specs.Element.{means, raw_in}
use Rattle.look.specs.Calls.{asks_by, is_tab_verb}
use Rattle.demands.specs.Leads.{Bears, Leads}
use Rattle.demands.specs.Rules.{Fits, Keeps}
use Rattle.demands.specs.Standing.{source_of, conversion_from, conversion_past}
use Rattle.demands.specs.Value.{CoefficientsBy, by_none, by_method, TableBy, by_reference, ValueBy, by_fraction, by_table}
use Rattle.demands.proofs.Leading.{bears-found}
use Rattle.demands.proofs.Sounding.{method-keeps}
use Rattle.demands.proofs.Ruling.{given-of}
use Rattle.demands.proofs.Loaded as loaded
use Rattle.demands.proofs.Standing.{part_held}
use Rattle.demands.proofs.Verbal.{TableSays, value-verbal}
use Rattle.demands.proofs.Tabled.{verbal-held, table-text}
use Rattle.demands.proofs.Sources.{pointed, MethodBy, no_method, a_method, method-named}
use Rattle.demands.proofs.Converting.{verbal-not, asks-some, verbal-none, asks_none, method-held}
use Rattle.demands.proofs.Meaning.{value-exact}

module _ (x image : List ℕ) (setting : Setting) (lent work : List ℕ) (f : Fits x image setting lent work) (k : Keeps x image setting.base) where
  abbrev d : Records
  d = k.records

  abbrev t : List ℕ
  t = loaded.t x image setting lent work f k

  -- "TAB_VERB with COMPU_TAB_REF to a COMPU_VTAB": the table of a method
  table_of : (m : ℕ) → m < count d method → slot d method m conversion_type ≡ TAB-VERB → (s : ℕ) × Bears x (view d) table (slot d method m compu_tab_ref) (slot d method m compu_tab_ref_past) s
  unfolding reference_rows inner_rows is_free
  table_of m l v =
      by-lead (k.references (row method compu_tab_ref table 0 0) (inr (inr (inr (inr (inr (inr (inl refl))))))) m l (λ z. let c = (pointed x image setting.base k).tabled m v in omega arith))
    where
      by-lead : Leads x (view d) (row method compu_tab_ref table 0 0) (slot d method m compu_tab_ref) (slot d method m compu_tab_ref_past)
          → (s : ℕ) × Bears x (view d) table (slot d method m compu_tab_ref) (slot d method m compu_tab_ref_past) s
      by-lead (inl q) = absurd (false≢true q)
      by-lead (inr q) = (q.0, q.1)

  -- what group g of the tables is asked by, where its conversion's name stands from a up to e: coefficients, or a verbal table
  data ConvertedBy (a e g : ℕ) : Type 0 where
    plain : (c : Coefficients) → CoefficientsBy x (view d) a e c → is_tab_verb (tables_in t) g ≡ false → asks_by (tables_in t) g ≡ c → ConvertedBy a e g
    verbal : (s : ℕ) → s < count d table → TableBy x (view d) a e s → is_tab_verb (tables_in t) g ≡ true → (tables_in t).slots method_section (method_of (tables_in t) g - 1) table_cell - 1 ≡ s → ConvertedBy a e g

  converted-by : (a e g n : ℕ) → MethodBy x (view d) a e n → method_of (tables_in t) g ≡ n → ConvertedBy a e g
  converted-by a e g n (no_method u) q = plain identical_of (by_none u) (verbal-none (tables_in t) g q) (asks_none (tables_in t) g q)
  converted-by a e g n (a_method m u b) q = by-type (eqb (slot d method m conversion_type) TAB-VERB) refl
    where
      by-type : (y : Bool) → eqb (slot d method m conversion_type) TAB-VERB ≡ y → ConvertedBy a e g
      by-type true y =
          let v = eqb-true (slot d method m conversion_type) TAB-VERB y in
          let s = table_of m b.below v in
          let h = verbal-held x image setting lent work f k g m s.0 b.below v (bears-found x (view d) table (slot d method m compu_tab_ref) (slot d method m compu_tab_ref_past) s.0 s.1) q in
          verbal s.0 s.1.below (by_reference m s.0 u b v s.1) h.0 h.1
      by-type false y =
          let v = eqb-false (slot d method m conversion_type) TAB-VERB y in
          let c = given-of (coefficients (view d) m) ((method-keeps (view d) m).1 (k.conversions m b.below)) in
          let h = method-held x image setting lent work f k m b.below v c.0 c.1 in
          plain c.0 (by_method m c.0 u b v c.1) (verbal-not (tables_in t) g m q h.0) (asks-some (tables_in t) g m q c.0 h.1)

  module _ (i : ℕ) (l : i < count d object) (p : Part) (e : needed (need_of image setting.base x (view d) i) p ≡ true) where
    -- the group of part p, and where the name of its conversion stands
    abbrev g : ℕ
    g = group_of i (number_of p)

    abbrev from : ℕ
    from = conversion_from x (view d) i p

    abbrev past : ℕ
    past = conversion_past x (view d) i p

    part-converted : ConvertedBy from past g
    part-converted = converted-by from past g (method_in x (view d) (source_of x (view d) i p)) (method-named x image setting.base k i l p e) (part_held x image setting lent work f k i l p e).converted

    -- what the raw number of element j of part p of object i means, in any image of bytes
    pub value-by : (now : List ℕ) → ((j : ℕ) → get_or now j 0 < 256) → (j : ℕ) → ValueBy x (view d) from past (raw_in (tables_in t) now g j) (means (tables_in t) g (raw_in (tables_in t) now g j))
    value-by now bytes j = by-conversion part-converted
      where
        z : ℤ
        z = raw_in (tables_in t) now g j

        by-conversion : ConvertedBy from past g → ValueBy x (view d) from past z (means (tables_in t) g z)
        by-conversion (plain c b v a) =
            subst (ValueBy x (view d) from past z)
            (sym (value-exact (length x) (length image) t (loaded.keeps-rule x image setting lent work f k) g (loaded.group_below x image setting lent work f k i l p) v now bytes j ∙ ap (λ (q : Coefficients). fraction q z) a))
            (by_fraction c b)
        by-conversion (verbal s b r v a) =
            by_table s (means (tables_in t) g z) r (table-text x image setting lent work f k s b z (means (tables_in t) g z)
            (subst (λ (y : ℕ). TableSays (tables_in t) y z (means (tables_in t) g z)) a
            (value-verbal (length x) (length image) t (loaded.keeps-rule x image setting lent work f k) f.text_fits g (loaded.group_below x image setting lent work f k i l p) v z)))

    -- what a physical write to part p is asked by, where its conversion is not verbal
    pub asked_by : is_tab_verb (tables_in t) g ≡ false → (c : Coefficients) × CoefficientsBy x (view d) from past c × (asks_by (tables_in t) g ≡ c)
    asked_by v = by-conversion part-converted
      where
        by-conversion : ConvertedBy from past g → (c : Coefficients) × CoefficientsBy x (view d) from past c × (asks_by (tables_in t) g ≡ c)
        by-conversion (plain c b w a) = (c, b, a)
        by-conversion (verbal s b r w a) = absurd (false≢true (sym v ∙ w))
