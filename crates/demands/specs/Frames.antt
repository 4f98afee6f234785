-- What a write leaves alone.
use Rattle.std.specs.Prelude.{ℕ, ◌+◌, ◌≤◌, ◌<◌, ◌≡◌, List, false, ◌⊎◌, length, get_or}
use Rattle.std.specs.Int.Bits.{bit_and}
use Rattle.cell.specs.Bytes.{stored_at}
use Rattle.cell.specs.Mask.{outside}
use Rattle.tables.specs.Form.{tables_in, total, first, mask}
use Rattle.tables.specs.Group.{elements, bytes, place_of, lines_before}
use Rattle.look.specs.Element.{touched}
use Rattle.look.specs.Calls.{Kept, groups, line_at}

module _ (t : List ℕ) (g i : ℕ) where
  -- the first byte of element i of group g, and the one past it
  abbrev pub first_byte : ℕ
  first_byte = place_of (tables_in t) g i

  abbrev pub past_byte : ℕ
  past_byte = place_of (tables_in t) g i + bytes (tables_in t) g

  -- the element's bits outside its mask
  abbrev pub bits_outside : List ℕ → ℕ
  bits_outside image = bit_and (stored_at (first (tables_in t) g) first_byte (bytes (tables_in t) g) image) (outside (mask (tables_in t) g))

  -- what is kept after a write to element i of group g, beside what was kept before it
  pub record Frame (k after : Kept) : Type 0 where
    -- "an accepted write changes at most the masked bits of the named element"
    pub long : length after.image ≡ length k.image
    pub others : (j : ℕ) → (j < first_byte) ⊎ (past_byte ≤ j) → get_or after.image j 0 ≡ get_or k.image j 0
    pub bits : 0 < mask (tables_in t) g → bits_outside after.image ≡ bits_outside k.image
    -- "and no list line that shares no byte with it"
    pub lines : (h j : ℕ) → h < groups t → j < elements (tables_in t) h → touched (tables_in t) first_byte past_byte h j ≡ false → line_at after (lines_before (tables_in t) h + j) ≡ line_at k (lines_before (tables_in t) h + j)
    -- "Room past the used entries is untouched"
    pub rest : (j : ℕ) → total (tables_in t) ≤ j → line_at after j ≡ line_at k j
