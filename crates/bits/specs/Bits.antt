-- The bits of an element, in the bytes of the image. Document 02, wish 13: "elements whose masked bits don't meet, also with both masks in one byte". Rule 9.19: "An
-- element has these bits of the image: its mask's, where they stand by its byte order; without a mask all bits of its bytes."
use Rattle.std.specs.Prelude.{ℕ, zero, suc, ◌+◌, ◌-◌, ◌^◌, Bool, get_or, replicate}
use Rattle.cell.specs.Bytes.{with_stored}

-- byte b of an image of zeros in which n is stored, in the w bytes at place p
abbrev pub stands_in : Bool → ℕ → ℕ → ℕ → ℕ → ℕ
stands_in first p w n b = get_or (with_stored first p w n (replicate (p + w) 0)) b 0

-- "its mask's", as a stored number; "without a mask all bits of its bytes"
abbrev pub own_mask : ℕ → ℕ → ℕ
own_mask w zero = 256 ^ w - 1
own_mask w (suc m) = suc m

-- and in byte b of the image "where they stand by its byte order"; none in a byte that is not the element's
unfoldable pub bits_in : Bool → ℕ → ℕ → ℕ → ℕ → ℕ
bits_in first p w mask = stands_in first p w (own_mask w mask)
