-- The raw number of an element: a data type, a byte order, a mask (0: none) and a place in the image.
use Rattle.std.specs.Prelude.{Bool, false, cond, ◌&&◌, List, ℕ, zero, suc, ◌+◌, leb, ℤ, pos, negsuc, nat_abs, length}
use Rattle.cell.specs.declared.kind.Shape.{Shape}
use Rattle.cell.specs.Bytes.{stored_at, with_stored}
use Rattle.cell.specs.Mask.{masked, fits_mask, inserted}
use Rattle.cell.specs.Sign.{typed, fits_type, bits_of}

-- The raw number of a stored number: by the mask, and where there is none by the type.
unfoldable pub raw_of : Shape → ℕ → ℕ → ℤ
raw_of t zero n = typed t.signed t.bytes n
raw_of t (suc m) n = pos (masked n (suc m))

-- "doesn't fit type or mask" (18) where this is false. No image stands here: whether a number fits depends on no byte of one.
unfoldable pub fits_raw : Shape → ℕ → ℤ → Bool
fits_raw t zero z = fits_type t.signed t.bytes z
fits_raw t (suc m) (pos n) = fits_mask n (suc m)
fits_raw t (suc m) (negsuc n) = false

-- The stored number with a raw number in it.
unfoldable pub stored_with : Shape → ℕ → ℕ → ℤ → ℕ
stored_with t zero old z = bits_of t.bytes z
stored_with t (suc m) old z = inserted old (suc m) (nat_abs z)

-- The w bytes at place p are bytes of the image.
abbrev pub is_inside : ℕ → ℕ → List ℕ → Bool
is_inside p w s = leb (p + w) (length s)

-- The raw number of the element at place p; 0 where a byte of it lies outside the image.
unfoldable pub raw_at : Bool → ℕ → Shape → ℕ → List ℕ → ℤ
raw_at first p t mask s = cond (is_inside p t.bytes s) (raw_of t mask (stored_at first p t.bytes s)) (pos 0)

-- The image after a raw write: changed where the number fits and the element is inside, and else as it was.
unfoldable pub written : Bool → ℕ → Shape → ℕ → ℤ → List ℕ → List ℕ
written first p t mask z s =
    cond (fits_raw t mask z && is_inside p t.bytes s)
    (with_stored first p t.bytes (stored_with t mask (stored_at first p t.bytes s) z) s)
    s
