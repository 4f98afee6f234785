-- The rows of verbal tables and of their entries, by the branches that the code takes.
use Prim.Native.Nat.{ℕ, ◌+◌, ◌-◌, ◌≤◌, ◌<◌, min}
use mathlib.Core.Path.{◌≡◌, refl, sym, ◌∙◌, ap}
use mathlib.Core.List.{List, [], ◌∷◌}
use mathlib.Core.Bool.{cond}
use borrow.Author.Rules.{rules}
use borrow.Author.Tests.{lt-ltb, le-ltb}
use Rattle.rows.specs.Sections.{table, entry}
use Rattle.rows.specs.Slots.{first_held, default_value, default_value_past, entry_sign, entry_size, entry_text, entry_text_past}
use Rattle.grammar.specs.Move.{View}
use Rattle.tables.specs.Form as form
use Rattle.build.specs.Build.{entries_end, table_row, entry_row}
use Rattle.build.specs.Row.{row_in}

-- n is how many tables there are
module _ (v : View) (i n : ℕ) (p : n ≡ v.counts table) where
  pub end-next : (r : ℕ) → i + 1 < n → r ≡ v.slots table (i + 1) first_held → r ≡ entries_end v i
  unfolding entries_end
  end-next r h q = q ∙ rw (← p, lt-ltb (i + 1) n h)

  pub end-last : (r : ℕ) → n ≤ i + 1 → r ≡ v.counts entry → r ≡ entries_end v i
  unfolding entries_end
  end-last r h q = q ∙ rw (← p, le-ltb (i + 1) n h)

pub ruleset ends = (end-next, end-last, rules)

pub table_is : (v : View) (i a e m b c : ℕ) (u w : List ℕ) → a ≡ v.slots table i first_held → e ≡ entries_end v i → m ≡ e - a → b ≡ v.slots table i default_value → c ≡ v.slots table i default_value_past
    → w ≡ row_in u form.table_section (a ∷ m ∷ b ∷ c ∷ []) → w ≡ row_in u form.table_section (table_row v i)
table_is v i a e m b c u w p q r s t z = z ∙ rw (r, q, p, s, t)

pub ruleset tables = (table_is, rules)

pub entry-is : (v : View) (i n a b c d : ℕ) (u w : List ℕ) → n ≡ v.slots entry i entry_sign → a ≡ min n 1 → b ≡ v.slots entry i entry_size → c ≡ v.slots entry i entry_text → d ≡ v.slots entry i entry_text_past
    → w ≡ row_in u form.entry_section (a ∷ b ∷ c ∷ d ∷ []) → w ≡ row_in u form.entry_section (entry_row v i)
entry-is v i n a b c d u w p q r s t z = z ∙ rw (q, p, r, s, t)

pub ruleset entries = (entry-is, rules)
