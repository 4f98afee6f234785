-- Bytes at absolute addresses, and the image.
use Rattle.std.specs.Prelude.{ℕ, ◌+◌, Bool, ◌&&◌, List, leb, length}

-- So many bytes at an address are bytes of the image, whose first byte has the base address (else "a byte outside the image", 12). Nothing wraps.
unfoldable pub inside : List ℕ → ℕ → ℕ → ℕ → Bool
inside image base at bytes = leb base at && leb (at + bytes) (base + length image)
