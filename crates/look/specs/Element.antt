-- One element: its raw number, what it means, its line.
use Rattle.std.specs.Prelude.{ℕ, ◌+◌, ◌-◌, min, List, Bool, cond, ◌&&◌, ltb, eqb, ℤ}
use Rattle.number.specs.Most.{most_entries}
use Rattle.cell.specs.Kind.{shape_of}
use Rattle.cell.specs.Raw.{raw_at}
use Rattle.convert.specs.Fraction.{Value, fraction_of}
use Rattle.convert.specs.Method.{identical_of}
use Rattle.convert.specs.Verbal.{verbal_of}
use Rattle.convert.specs.Told.{held}
use Rattle.convert.specs.declared.fraction.Physical.{Physical}
use Rattle.tables.specs.Form.{method_section, table_section, entry_section, Tables, conversion_cell, table_cell, first_entry_cell, entries_cell, default_cell, default_past_cell, kind, first, method_of, mask, coefficients}
use Rattle.tables.specs.Group.{bytes, place_of}
use Rattle.tables.specs.Rule.{is_verbal}
use Rattle.look.specs.declared.element.Line.{Line}

-- "A line holds raw, state (0 none, 1 number, 2 text), and the fraction's two numbers, or the text's first byte and the one past it, quotes included; zeros for none."
abbrev pub line_with : ℤ → Physical → Line
line_with raw p = record { raw = raw; state = p.state; first = p.first; second = p.second }

-- ---- what a raw number of group g means. A method's number has one added, 0 is NO_COMPU_METHOD

-- numbers past every capacity read as this
abbrev pub past_records : ℕ
past_records = 65535

module _ (T : Tables) where
  -- the text that verbal table s gives (no table has more entries than all may have)
  unfoldable pub text_at : ℕ → ℤ → Value
  text_at s raw =
      verbal_of (T.slots entry_section) (T.slots table_section s first_entry_cell) (min (T.slots table_section s entries_cell) most_entries)
      (T.slots table_section s default_cell) (T.slots table_section s default_past_cell) raw

  -- method m: "TAB_VERB: the entry with that number gives its text", the others a fraction
  unfoldable pub means_by : ℕ → ℤ → Value
  means_by m raw =
      cond (is_verbal (T.slots method_section m conversion_cell)) (text_at (T.slots method_section m table_cell - 1) raw)
      (fraction_of (coefficients T m) raw)

  -- "IDENTICAL and NO_COMPU_METHOD are 1, 0, 0, 1."
  unfoldable pub means : ℕ → ℤ → Value
  means g raw = cond (eqb (method_of T g) 0) (fraction_of identical_of raw) (means_by (method_of T g - 1) raw)

  -- ---- the element of group g with index i, in an image

  unfoldable pub raw_in : List ℕ → ℕ → ℕ → ℤ
  raw_in image g i =
      raw_at (first T g) (place_of T g i) (shape_of (kind T g)) (mask T g) image

  unfoldable pub line_of : List ℕ → ℕ → ℕ → Line
  line_of image g i = line_with (raw_in image g i) (held (means g (raw_in image g i)))

-- ---- bytes in common

-- the bytes from lo up to hi and so many bytes from p on have one in common
unfoldable pub shares : ℕ → ℕ → ℕ → ℕ → Bool
shares lo hi p many = ltb p hi && ltb lo (p + many)

module _ (T : Tables) (lo hi : ℕ) where
  -- element i of group g has one of the bytes from lo up to hi
  unfoldable pub touched : ℕ → ℕ → Bool
  touched g i = shares lo hi (place_of T g i) (bytes T g)
