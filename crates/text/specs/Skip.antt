-- Skipping a block whole (document 01, "What the reader takes"): "blocks hold items and items hold blocks, at most sixteen deep counting PROJECT as one".
use Rattle.std.specs.Prelude.{ℕ, zero, suc, List, Bool, cond, ◌&&◌, length}
use Rattle.text.specs.Walk.{Step, on, done, over}
use Rattle.text.specs.Answer.{Answer, given, refused, with, Piece, piece, finish, is, run, begin, end, Pass, past, closes}
use Rattle.text.specs.Bytes.{same_part, spells}
use Rattle.text.specs.Item.{next_item}

-- the tag after `/begin` or `/end` is a run; any other piece in its place is refusal n at that piece, and the text's end is 3
abbrev pub as_tag : ℕ → Piece → Answer (ℕ × ℕ)
as_tag n (piece kind a e) = cond (is kind run) (given (a, e)) (refused n a)
as_tag n (finish p) = refused 3 p

unfoldable pub tag_at : ℕ → List ℕ → ℕ → Answer (ℕ × ℕ)
tag_at n s k = with (next_item s k) (as_tag n)

-- after `/end`: a tag that is, byte for byte, the block's, which stands from f up to t; else "begin and end don't match", 3 at it
abbrev pub same_tag : List ℕ → ℕ → ℕ → ℕ × ℕ → Answer ℕ
same_tag s f t tag = cond (same_part s tag.0 tag.1 s f t) (given tag.1) (refused 3 tag.0)

unfoldable pub closing : List ℕ → ℕ → ℕ → ℕ → Answer ℕ
closing s f t k = with (tag_at 3 s k) (same_tag s f t)

-- a walk over items: on past an item; at the `/end` that closes, done with what `close` says of the place past it
abbrev pub after_item : (ℕ → Answer ℕ) → Answer Pass → Step (Answer ℕ)
after_item close (given (past e)) = on e
after_item close (given (closes e)) = done (close e)
after_item close (refused n p) = done (refused n p)

-- the bytes from k up to e are `A2ML`
unfoldable pub is_a2ml : List ℕ → ℕ → ℕ → Bool
is_a2ml s k e = spells s k e "A2ML"

-- "A2ML ends at its first "/end A2ML" outside strings and comments": an item `/end`, past which e stands, closes if the next item is `A2ML`
abbrev pub after_end : List ℕ → ℕ → Answer Piece → Answer Pass
after_end s e (given (piece kind a f)) = cond (is kind run && is_a2ml s a f) (given (closes f)) (given (past e))
after_end s e (given (finish p)) = given (past e)
after_end s e (refused n p) = given (past e)

-- any other item of it is passed
abbrev pub a2ml_piece : List ℕ → Piece → Answer Pass
a2ml_piece s (piece kind a e) = cond (is kind end) (after_end s e (next_item s e)) (given (past e))
a2ml_piece s (finish p) = refused 3 p

unfoldable pub a2ml_item : List ℕ → ℕ → Answer Pass
a2ml_item s k = with (next_item s k) (a2ml_piece s)

abbrev pub a2ml_step : List ℕ → ℕ → Step (Answer ℕ)
a2ml_step s k = after_item given (a2ml_item s k)

unfoldable pub a2ml_end : List ℕ → ℕ → Answer ℕ
a2ml_end s = over (length s) (a2ml_step s) (λ k. refused 3 (length s))

-- any other block: an item is passed, `/begin` starts a block that `inner` passes, `/end` closes, the text's end is 3
abbrev pub block_piece : (ℕ → ℕ → Answer ℕ) → Piece → Answer Pass
block_piece inner (piece kind a e) =
    cond (is kind begin) (with (inner a e) (λ k. given (past k)))
    (cond (is kind end) (given (closes e))
    (given (past e)))
block_piece inner (finish p) = refused 3 p

unfoldable pub block_item : (ℕ → ℕ → Answer ℕ) → List ℕ → ℕ → Answer Pass
block_item inner s k = with (next_item s k) (block_piece inner)

abbrev pub block_step : (ℕ → ℕ → Answer ℕ) → List ℕ → ℕ → ℕ → ℕ → Step (Answer ℕ)
block_step inner s f t k = after_item (closing s f t) (block_item inner s k)

-- past the block whose tag stands from f up to t
unfoldable pub block_end : (ℕ → ℕ → Answer ℕ) → List ℕ → ℕ → ℕ → Answer ℕ
block_end inner s f t =
    cond (is_a2ml s f t) (a2ml_end s t)
    (over (length s) (block_step inner s f t) (λ k. refused 3 (length s)) t)

-- a block inside, whose `/begin` stands from a up to e, with d levels left: at none it is "too deep", 3 there; its tag comes next
unfoldable pub block_in : ℕ → List ℕ → ℕ → ℕ → Answer ℕ
block_in zero s a e = refused 3 a
block_in (suc d) s a e = with (tag_at 5 s e) (λ tag. block_end (block_in d s) s tag.0 tag.1)

-- the block whose tag stands from f up to t, with d levels left below it
unfoldable pub skip_block : ℕ → List ℕ → ℕ → ℕ → Answer ℕ
skip_block d s f t = block_end (block_in d s) s f t

-- the next item of a block, with d levels left below the block
unfoldable pub skip_item : ℕ → List ℕ → ℕ → Answer Pass
skip_item d s k = block_item (block_in d s) s k
