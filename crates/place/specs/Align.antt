-- Alignment.
use Rattle.std.specs.Prelude.{ℕ, zero, suc, ◌+◌, ◌%◌, cond, eqb}
use Rattle.cell.specs.declared.kind.Shape.{Shape}
use Rattle.place.specs.declared.order.Aligns.{Aligns}

-- "the ALIGNMENT words for byte, word and long", by the size of the data type
unfoldable pub word_for : Aligns → ℕ → ℕ
word_for a bytes = cond (eqb bytes 1) a.byte (cond (eqb bytes 2) a.word a.long)

-- "One decision gives size, sign and alignment for each data type: bytes 1, words 2, longs 4 .. Alignment words may set 1, 2, 4 or 8":
-- a word of 0 is not set, and leaves the data type's own alignment.
unfoldable pub alignment : Aligns → Shape → ℕ
alignment a t = cond (eqb (word_for a t.bytes) 0) t.align (word_for a t.bytes)

-- "the next absolute address that its alignment divides": n, else n + 1, and so on, for as many as the alignment has
unfoldable pub next_from : ℕ → ℕ → ℕ → ℕ
next_from zero align n = n
next_from (suc k) align n = cond (eqb (n % align) 0) n (next_from k align (n + 1))

unfoldable pub aligned : ℕ → ℕ → ℕ
aligned align n = next_from align align n
