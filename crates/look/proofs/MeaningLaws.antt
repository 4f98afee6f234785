-- What raw numbers mean, and lines, from what is read once for a group.
use mathlib.Core.Path.{◌≡◌, refl, ◌∙◌}
use mathlib.Core.List.{List}
use mathlib.Core.Bool.{Bool, true, false, cond}
use Prim.Native.Nat.{ℕ, ◌-◌, min}
use borrow.Author.Rules.{rules}
use lib.Dec.{eqb}
use lib.IntN.{ℤ}
use Rattle.cell.specs.Kind.{shape_of}
use Rattle.cell.specs.Raw.{raw_at}
use Rattle.convert.specs.Fraction.{Value, fraction_of}
use Rattle.convert.specs.Told.{held}
use Rattle.convert.specs.declared.fraction.Physical.{Physical}
use Rattle.convert.specs.declared.method.Coefficients.{Coefficients}
use Rattle.tables.specs.Form.{method_section, tables_in, method_of}
use Rattle.tables.specs.Group.{place_of, storage_of, place_by}
use Rattle.tables.specs.declared.group.Storage.{Storage}
use Rattle.look.specs.Element.{past_records, text_at, means_by, means, raw_in, line_with, line_of}
use Rattle.look.specs.Calls.{asks_by, is_tab_verb}
use Rattle.look.specs.Steps.{meaning_of}
use Rattle.look.specs.declared.element.Line.{Line}
use Rattle.look.specs.declared.meaning.Meaning.{Meaning}
use Rattle.look.proofs.ElementLaws.{method-slot, near-text, line-is}

-- what a raw number means by m
abbrev pub meant : List ℕ → Meaning → ℤ → Value
meant t m z = cond m.verbal (text_at (tables_in t) m.table z) (fraction_of m.k z)

module _ (t : List ℕ) (g : ℕ) where
  pub meaning-is : (m n s u : ℕ) (b : Bool) (f : Coefficients) → m ≡ method_of (tables_in t) g → n ≡ min (m - 1) past_records → s ≡ (tables_in t).slots method_section n 9
      → b ≡ is_tab_verb (tables_in t) g → u ≡ min (s - 1) past_records → f ≡ asks_by (tables_in t) g
      → ◌≡◌ {A = Meaning} (record { verbal = b; table = u; k = f }) (meaning_of t g)
  meaning-is m n s u b f pm pn ps pb pu pf = rw (pb, pu, pf, ps, pn, method-slot t 9 (m - 1), pm)

  means-turn : (z : ℤ) (b : Bool) → eqb (method_of (tables_in t) g) 0 ≡ b → meant t (meaning_of t g) z ≡ means (tables_in t) g z
  unfolding is_tab_verb asks_by means means_by
  means-turn z true e = rw e
  means-turn z false e = rw (e, near-text t ((tables_in t).slots method_section (method_of (tables_in t) g - 1) 9 - 1) z)

  -- y is what the machine reads back of z
  pub means-group : (z y : ℤ) (m : Meaning) (r : Physical) → r ≡ held (meant t m y) → y ≡ z → m ≡ meaning_of t g → r ≡ held (means (tables_in t) g z)
  means-group z y m r h e p = h ∙ rw (p, e, means-turn z (eqb (method_of (tables_in t) g) 0) refl)

module _ (t : List ℕ) (m : Meaning) (z y : ℤ) (r : Physical) where
  pub by_table : (n : ℕ) → r ≡ held (text_at (tables_in t) n y) → y ≡ z → n ≡ m.table → m.verbal ≡ true → r ≡ held (meant t m z)
  by_table n h e p v = h ∙ rw (v, e, p)

  pub by-numbers : (f : Coefficients) → r ≡ held (fraction_of f y) → y ≡ z → f ≡ m.k → m.verbal ≡ false → r ≡ held (meant t m z)
  by-numbers f h e p v = h ∙ rw (v, e, p)

-- the raw number of element i of what is stored so
abbrev pub raw_by : List ℕ → Storage → ℕ → ℤ
raw_by image s i = raw_at s.first (place_by s i) (shape_of s.kind) s.mask image

module _ (t image : List ℕ) (s : Storage) (i : ℕ) where
  pub raw-by-is : (p : ℕ) (r : ℤ) → p ≡ place_by s i → r ≡ raw_at s.first p (shape_of s.kind) s.mask image → r ≡ raw_by image s i
  raw-by-is p r e h = h ∙ rw e

  pub raw-group : (g : ℕ) (r : ℤ) → s ≡ storage_of (tables_in t) g → r ≡ raw_by image s i → r ≡ raw_in (tables_in t) image g i
  unfolding raw_in place_of
  raw-group g r e h = h ∙ rw e

  -- x and y are what the machine reads back of z
  pub line-group : (m : Meaning) (x y z : ℤ) (p : Physical) (l : Line) → z ≡ raw_by image s i → y ≡ z → x ≡ z → p ≡ held (meant t m y) → l ≡ line_with x p
      → (g : ℕ) → s ≡ storage_of (tables_in t) g → m ≡ meaning_of t g → l ≡ line_of (tables_in t) image g i
  line-group m x y z p l a b d e f g es em =
      line-is t image g i z y p l (raw-group g z es a) b (means-group t g y y m p e refl em) (f ∙ rw d)

pub ruleset meanings = (meaning-is, means-group, by_table, by-numbers, raw-by-is, raw-group, line-group, rules)
