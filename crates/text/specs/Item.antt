-- The next item of a skipped block (document 01, "What the reader takes").
use Rattle.std.specs.Prelude.{ℕ, List, cond, length, leb, eqb}
use Rattle.text.specs.Answer.{Answer, given, with, Piece, piece, finish, run, begin, end}
use Rattle.text.specs.Bytes.{byte}
use Rattle.text.specs.Blank.{blank_at}
use Rattle.text.specs.Token.{string_at, run_end, is_begin, is_end}

-- "Inside a skipped block any run of bytes without blanks, quotes or the start of a comment is an item."
abbrev pub item_of : List ℕ → ℕ → ℕ → Answer Piece
item_of s k e =
    cond (is_begin s k e) (given (piece begin k e))
    (cond (is_end s k e) (given (piece end k e))
    (given (piece run k e)))

unfoldable pub run_item : List ℕ → ℕ → Answer Piece
run_item s k = with (run_end s k) (item_of s k)

-- the item that starts at k: a string or a run; `/begin` and `/end` are such as whole items
unfoldable pub item_at : List ℕ → ℕ → Answer Piece
item_at s k =
    cond (leb (length s) k) (given (finish (length s)))
    (cond (eqb (byte s k) 34) (string_at s k)
    (run_item s k))

unfoldable pub next_item : List ℕ → ℕ → Answer Piece
next_item s k = with (blank_at s k) (item_at s)
