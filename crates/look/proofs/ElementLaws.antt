-- One element, by the tests that the code makes.
use mathlib.Core.Path.{◌≡◌, refl, sym, ◌∙◌}
use mathlib.Core.List.{List}
use mathlib.Core.Bool.{Bool, true, false}
use Prim.Native.Nat.{ℕ, zero, suc, ◌≤◌, min}
use native.Mathlib.Omega.{arith}
use borrow.Author.Tests.{le-ltb}
use lib.Dec.{ltb}
use lib.IntN.{ℤ}
use Rattle.number.specs.Most.{most_entries}
use Rattle.convert.specs.Verbal.{entries_from, verbal_of}
use Rattle.convert.specs.Told.{held}
use Rattle.convert.specs.declared.fraction.Physical.{Physical}
use Rattle.records.specs.Records.{most_of}
use Rattle.records.specs.Cells.{section_in, slot_in}
use Rattle.records.specs.declared.Section.{Section}
use Rattle.tables.specs.Form.{table_sections, method_section, table_section, entry_section, tables_in, coefficients}
use Rattle.look.specs.Element.{past_records, text_at, means, raw_in, line_with, line_of}
use Rattle.look.specs.declared.element.Line.{Line}

-- ---- a record's number that is too large for any record
module _ (t : List ℕ) (j k : ℕ) (fits : most_of table_sections j ≤ past_records) where
  far : (i : ℕ) → most_of table_sections j ≤ i → slot_in t (section_in table_sections j) i k ≡ 0
  unfolding slot_in
  far i h = rw (le-ltb i (most_of table_sections j) h)

  near-turn : (n : ℕ) (b : Bool) → ltb n past_records ≡ b → slot_in t (section_in table_sections j) (min n past_records) k ≡ slot_in t (section_in table_sections j) n k
  near-turn n true e = let z : min n past_records ≡ n = omega (arith, borrow.Author.Tests.ltb-true n past_records e) in rw z
  near-turn n false e =
      let h = borrow.Author.Tests.ltb-false n past_records e in
      let z : min n past_records ≡ past_records = omega arith in
      rw z (far past_records fits ∙ sym (far n (omega arith)))

  pub near-slot : (n : ℕ) → slot_in t (section_in table_sections j) (min n past_records) k ≡ slot_in t (section_in table_sections j) n k
  near-slot n = near-turn n (ltb n past_records) refl

few-methods : most_of table_sections method_section ≤ past_records
unfolding table_sections
few-methods = omega arith

few-tables : most_of table_sections table_section ≤ past_records
unfolding table_sections
few-tables = omega arith

entry-far : (t : List ℕ) (i k : ℕ) → most_entries ≤ i → (tables_in t).slots entry_section i k ≡ 0
unfolding slot_in table_sections
entry-far t i k h = rw (le-ltb i most_entries h)

pub method-slot : (t : List ℕ) (k n : ℕ) → (tables_in t).slots method_section (min n past_records) k ≡ (tables_in t).slots method_section n k
method-slot t k n = near-slot t method_section k few-methods n

pub table-slot : (t : List ℕ) (k n : ℕ) → (tables_in t).slots table_section (min n past_records) k ≡ (tables_in t).slots table_section n k
table-slot t k n = near-slot t table_section k few-tables n

pub near-coefficients : (t : List ℕ) (n : ℕ) → coefficients (tables_in t) (min n past_records) ≡ coefficients (tables_in t) n
near-coefficients t n =
    rw (method-slot t 1 n, method-slot t 2 n, method-slot t 3 n, method-slot t 4 n, method-slot t 5 n, method-slot t 6 n, method-slot t 7 n, method-slot t 8 n)

pub near-text : (t : List ℕ) (n : ℕ) (z : ℤ) → text_at (tables_in t) (min n past_records) z ≡ text_at (tables_in t) n z
unfolding text_at
near-text t n z = rw (table-slot t 0 n, table-slot t 1 n, table-slot t 2 n, table-slot t 3 n)

-- ---- what a raw number means

-- past the section every entry is the same
entries_far : (t : List ℕ) (e d n : ℕ) → most_entries ≤ e → most_entries ≤ d → entries_from ((tables_in t).slots entry_section) e n ≡ entries_from ((tables_in t).slots entry_section) d n
unfolding entries_from
entries_far t e d zero h l = refl
entries_far t e d (suc n) h l =
    let at : (i k : ℕ) → most_entries ≤ i → (tables_in t).slots entry_section i k ≡ 0 = λ i k m. entry-far t i k m in
    rw (at e 0 h, at e 1 h, at e 2 h, at e 3 h, at d 0 l, at d 1 l, at d 2 l, at d 3 l, entries_far t (suc e) (suc d) n (omega arith) (omega arith))

pub near-entries : (t : List ℕ) (e n : ℕ) → entries_from ((tables_in t).slots entry_section) (min e most_entries) n ≡ entries_from ((tables_in t).slots entry_section) e n
near-entries t e n = by-test (ltb e most_entries) refl where
  by-test : (b : Bool) → ltb e most_entries ≡ b → entries_from ((tables_in t).slots entry_section) (min e most_entries) n ≡ entries_from ((tables_in t).slots entry_section) e n
  by-test true q = let z : min e most_entries ≡ e = omega (arith, borrow.Author.Tests.ltb-true e most_entries q) in rw z
  by-test false q = let h = borrow.Author.Tests.ltb-false e most_entries q in entries_far t (min e most_entries) e n (omega arith) (omega arith)

module _ (t : List ℕ) (z : ℤ) where
  pub text-is : (s a b c d from many : ℕ) (j : Section) (y : ℤ) (r : Physical) → r ≡ held (verbal_of (slot_in t j) from many c d y) → y ≡ z → j ≡ section_in table_sections entry_section
      → from ≡ min a most_entries → many ≡ min b most_entries → a ≡ (tables_in t).slots table_section s 0 → b ≡ (tables_in t).slots table_section s 1 → c ≡ (tables_in t).slots table_section s 2
      → d ≡ (tables_in t).slots table_section s 3 → r ≡ held (text_at (tables_in t) s z)
  unfolding text_at verbal_of
  text-is s a b c d from many j y r g h q e f pa pb pc pd = g ∙ rw (h, q, e, f, pa, pb, pc, pd, near-entries t ((tables_in t).slots table_section s 0) (min ((tables_in t).slots table_section s 1) most_entries))

-- ---- an element
module _ (t image : List ℕ) (g i : ℕ) where
  pub line-is : (z y : ℤ) (p : Physical) (l : Line) → z ≡ raw_in (tables_in t) image g i → y ≡ z → p ≡ held (means (tables_in t) g y) → l ≡ line_with z p → l ≡ line_of (tables_in t) image g i
  unfolding line_of
  line-is z y p l a b c d = d ∙ rw (c, b, a)
