-- The definitions at some texts, computed: each table has a text and what is read there, a row to a line.
use Prim.Native.Nat.{ℕ, zero, suc}
use mathlib.Core.Path.{◌≡◌, refl}
use mathlib.Core.List.{List, [], ◌∷◌, ◌++◌, map}
use lib.ListN.{replicate}
use Rattle.text.specs.Walk.{walk, over}
use Rattle.text.specs.Answer.{Answer, given, refused, Piece, piece, finish, name, string, number, begin, end}
use Rattle.text.specs.Bytes.{spelt, is_blank, is_allowed, is_letter, is_digit, starts_name, in_name, starts_number, pair_at, same_for, same_part}
use Rattle.text.specs.Blank.{line_end, comment_end, blank_at, token_ends}
use Rattle.text.specs.Token.{name_end, name_at, string_end, string_at, run_end, number_at, is_begin, is_end, mark_at, token_at, next_token}
use Rattle.text.specs.Item.{run_item, item_at, next_item}
use Rattle.text.specs.Skip.{tag_at, closing, is_a2ml, a2ml_item, a2ml_end, block_item, block_end, block_in, skip_block}

-- a text, a place in it, and the token read from there
abbrev tokens : List (List ℕ × ℕ × Answer Piece)
tokens =
    -- the empty text ends at 0
    (spelt "", 0, given (finish 0))
    -- a name of 128 bytes, and one of 129
    ∷ (replicate 128 65, 0, given (piece name 0 128))
    ∷ (replicate 129 65, 0, refused 1 0)
    -- `"a\"b"`: a backslash keeps its quote
    ∷ (spelt "\"a\\\"b\"", 0, given (piece string 0 6))
    -- `"a""b"`: two quotes are one inside
    ∷ (spelt "\"a\"\"b\"", 0, given (piece string 0 6))
    -- `"a\\"`: the second backslash belongs to the quote too, so the string is not closed
    ∷ (spelt "\"a\\\\\"", 0, refused 1 0)
    -- `"a""`: not closed either
    ∷ (spelt "\"a\"\"", 0, refused 1 0)
    -- an unclosed string is refused at its first byte
    ∷ (spelt "A \"b", 1, refused 1 2)
    -- an unclosed comment too
    ∷ (spelt "A /* b", 1, refused 1 2)
    -- `/*/` is not closed, `/**/` is
    ∷ (spelt "/*/A", 0, refused 1 0)
    ∷ (spelt "/**/A", 0, given (piece name 4 5))
    -- comments don't nest: the first `*/` closes
    ∷ (spelt "/*/*/A", 0, given (piece name 5 6))
    -- `//` goes to the end of the line
    ∷ (spelt "// A\nB", 0, given (piece name 5 6))
    -- blanks of all four kinds, and comments, up to the text's end
    ∷ (spelt " \t\r\n//", 0, given (finish 6))
    -- `NAME"s"` is two tokens
    ∷ (spelt "NAME\"s\"", 0, given (piece name 0 4))
    ∷ (spelt "NAME\"s\"", 4, given (piece string 4 7))
    -- a comment ends a name, a number and a mark
    ∷ (spelt "A.b[1]/**/", 0, given (piece name 0 6))
    ∷ (spelt "-1.5//", 0, given (piece number 0 4))
    ∷ (spelt "/begin/**/A", 0, given (piece begin 0 6))
    -- a name is not followed by another byte
    ∷ (spelt "A-B", 0, refused 1 0)
    ∷ (spelt "A/x", 0, refused 1 0)
    -- nor is a mark
    ∷ (spelt "/beginX", 0, refused 1 0)
    -- the text's end ends a mark
    ∷ (spelt "/end", 0, given (piece end 0 4))
    -- a number run goes to the next blank, whatever it holds; its form is judged elsewhere
    ∷ (spelt "0x1F/end A", 0, given (piece number 0 8))
    -- a byte 0x80 in a number run refuses the run, at its start
    ∷ (spelt " 5\u{80} ", 0, refused 1 1)
    -- one that stands alone is refused too
    ∷ (spelt " \u{80}", 0, refused 1 1)
    ∷ []

each-token : map (λ c. next_token c.0 c.1) tokens ≡ map (λ c. c.2) tokens
unfolding walk over is_blank is_allowed is_letter is_digit starts_name in_name starts_number pair_at same_for same_part line_end comment_end blank_at token_ends name_end name_at string_end string_at run_end number_at is_begin is_end mark_at token_at next_token
each-token = refl

-- `/begin B`, and so on inside it, n deep
abbrev deep : ℕ → List ℕ
deep zero = []
deep (suc n) = spelt "/begin B " ++ deep n ++ spelt "/end B "

-- a block of MODULE stands at depth three and has 13 levels left below it
abbrev in_module : ℕ → List ℕ
in_module n = spelt "B " ++ deep n ++ spelt "/end B"

-- levels left below the block, its text from the tag on, the tag's length, and the place past the block
abbrev blocks : List (ℕ × List ℕ × ℕ × Answer ℕ)
blocks =
    -- a block with items of every kind, and what stands after it
    (0, spelt "B 1;2 \"/end B\" /* /end B */ /end B C", 1, given 34)
    -- `/begin` and `/end` are such as whole items only
    ∷ (0, spelt "B x/begin /endB /end B", 1, given 22)
    -- with one level left, a block inside is passed
    ∷ (1, spelt "B /begin C /end C /end B", 1, given 24)
    -- and one inside that is too deep, at its `/begin`
    ∷ (1, spelt "B /begin C /begin D /end D /end C /end B", 1, refused 3 11)
    -- two side by side are no deeper
    ∷ (1, spelt "B /begin C /end C /begin C /end C /end B", 1, given 40)
    -- the end tag is another
    ∷ (1, spelt "B /begin C /end B", 1, refused 3 16)
    -- the end tag goes on
    ∷ (0, spelt "B /end B;", 1, refused 3 7)
    -- a string where the end tag is to stand, and where a tag inside is to stand
    ∷ (0, spelt "B /end \"B\"", 1, refused 3 7)
    ∷ (1, spelt "B /begin \"x\"", 1, refused 5 9)
    -- the text ends early
    ∷ (1, spelt "B /begin C ", 1, refused 3 11)
    ∷ (1, spelt "B /begin ", 1, refused 3 9)
    -- an unclosed string inside, and a byte 0x80 in an item
    ∷ (0, spelt "B \"x /end B", 1, refused 1 2)
    ∷ (0, spelt "B x\u{80} /end B", 1, refused 1 2)
    -- sixteen deep is passed; the seventeenth `/begin` is refused, at it
    ∷ (13, in_module 13, 1, given 216)
    ∷ (13, in_module 14, 1, refused 3 119)
    -- A2ML ends at its first `/end A2ML` outside strings and comments
    ∷ (0, spelt "A2ML \"/end A2ML\" /* /end A2ML */ /end A2ML /end A2ML", 4, given 42)
    -- `};/end A2ML` does not end it, nor does `/end A2ML;`
    ∷ (0, spelt "A2ML };/end A2ML /end A2ML", 4, given 26)
    ∷ (0, spelt "A2ML /end A2ML; /end A2ML", 4, given 25)
    ∷ (0, spelt "A2ML };/end A2ML", 4, refused 3 16)
    -- nothing in it counts for depth, also where it stands inside another block
    ∷ (0, spelt "A2ML /begin /end /end /**/ A2ML", 4, given 31)
    ∷ (1, spelt "B /begin A2ML /begin /begin x /end A2ML /end B", 1, given 46)
    ∷ []

each-block : map (λ c. skip_block c.0 c.1 0 c.2) blocks ≡ map (λ c. c.3) blocks
unfolding walk over is_blank is_allowed is_letter is_digit starts_name in_name starts_number pair_at same_for same_part line_end comment_end blank_at token_ends name_end name_at string_end string_at run_end is_begin is_end run_item item_at next_item tag_at closing is_a2ml a2ml_item a2ml_end block_item block_end block_in skip_block
each-block = refl
