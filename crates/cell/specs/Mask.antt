-- BIT_MASK.
use Rattle.std.specs.Prelude.{Bool, not, ◌&&◌, ℕ, ◌*◌, ◌-◌, ◌/◌, ◌^◌, eqb, ltb}
use Rattle.std.specs.Int.Bits.{bit_and, bit_or}
use Rattle.std.specs.Int.Count.{count_trailing_zeros}
use Rattle.cell.specs.declared.kind.Shape.{Shape}

-- "BIT_MASK: unsigned types only, not zero, within the type."
unfoldable pub mask_rule : Shape → ℕ → Bool
mask_rule t mask = not t.signed && ltb 0 mask && ltb mask (256 ^ t.bytes)

-- "The mask's lowest set bit decides the shift"
abbrev pub lowest : ℕ → ℕ
lowest mask = count_trailing_zeros 64 mask

-- "raw = (stored AND mask) shifted right by that."
abbrev pub masked : ℕ → ℕ → ℕ
masked stored mask = bit_and stored mask / 2 ^ lowest mask

-- A raw number, shifted back.
abbrev pub shifted : ℕ → ℕ → ℕ
shifted raw mask = raw * 2 ^ lowest mask

-- "A raw write fits exactly if, shifted back, it has no bit outside the mask."
abbrev pub fits_mask : ℕ → ℕ → Bool
fits_mask raw mask = eqb (bit_and (shifted raw mask) mask) (shifted raw mask)

-- The bits outside a mask.
abbrev pub outside : ℕ → ℕ
outside mask = 2 ^ 64 - 1 - mask

-- The stored number with a raw number under the mask, and its other bits as they were.
abbrev pub inserted : ℕ → ℕ → ℕ → ℕ
inserted stored mask raw = bit_or (bit_and stored (outside mask)) (shifted raw mask)
