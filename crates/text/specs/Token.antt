-- Names, strings, runs, and the next token of a place where document 01's grammar is read ("Words and numbers").
use Rattle.std.specs.Prelude.{ℕ, ◌+◌, List, Bool, cond, ◌&&◌, ◌||◌, length, leb, eqb}
use Prim.Native.Char.{code}
use Rattle.text.specs.Walk.{Step, on, done, over}
use Rattle.text.specs.Answer.{Answer, given, refused, with, Piece, piece, finish, name, string, number, begin, end}
use Rattle.text.specs.Bytes.{byte, is_allowed, starts_name, in_name, starts_number, pair_at, spells}
use Rattle.text.specs.Blank.{blank_at, token_ends}

-- the first place from k on with no byte of a name, or the text's end
abbrev pub name_step : List ℕ → ℕ → Step ℕ
name_step s k = cond (in_name (byte s k)) (on (k + 1)) (done k)

unfoldable pub name_end : List ℕ → ℕ → ℕ
name_end s = over (length s) (name_step s) (λ k. k)

-- "A name starts with a letter or `_`, .., has at most 128 bytes"; "A name not followed by a blank, comment, quote or the end is 1."
unfoldable pub name_at : List ℕ → ℕ → Answer Piece
name_at s k =
    cond (leb (name_end s k) (k + 128) && token_ends s (name_end s k))
    (given (piece name k (name_end s k)))
    (refused 1 k)

-- "a quote inside is `\"` or `""`, and a backslash before a quote always belongs to it": such a pair is passed, another quote closes
abbrev pub quote_step : List ℕ → ℕ → Step (Answer ℕ)
quote_step s k =
    cond (pair_at s k (code "\\") 34 || pair_at s k 34 34) (on (k + 2))
    (cond (eqb (byte s k) 34) (done (given (k + 1)))
    (on (k + 1)))

-- "Strings stand in double quotes": the string whose first quote stands at k; unclosed it is refusal 1 there
unfoldable pub string_end : List ℕ → ℕ → Answer ℕ
string_end s k = over (length s) (quote_step s) (λ j. refused 1 k) (k + 1)

unfoldable pub string_at : List ℕ → ℕ → Answer Piece
string_at s k = with (string_end s k) (λ e. given (piece string k e))

-- a run "goes to the next blank, comment or quote"; a byte in it that is not allowed is refusal 1 at the run's first byte, k
abbrev pub run_step : List ℕ → ℕ → ℕ → Step (Answer ℕ)
run_step s k j =
    cond (token_ends s j) (done (given j))
    (cond (is_allowed (byte s j)) (on (j + 1))
    (done (refused 1 k)))

unfoldable pub run_end : List ℕ → ℕ → Answer ℕ
run_end s k = over (length s) (run_step s k) given k

unfoldable pub number_at : List ℕ → ℕ → Answer Piece
number_at s k = with (run_end s k) (λ e. given (piece number k e))

-- the bytes from k up to e are `/begin`, `/end`
unfoldable pub is_begin : List ℕ → ℕ → ℕ → Bool
is_begin s k e = spells s k e "/begin"

unfoldable pub is_end : List ℕ → ℕ → ℕ → Bool
is_end s k e = spells s k e "/end"

-- a run that is `/begin` or `/end`, whole; any other that starts no name, string or number is refusal 1
abbrev pub mark_of : List ℕ → ℕ → ℕ → Answer Piece
mark_of s k e =
    cond (is_begin s k e) (given (piece begin k e))
    (cond (is_end s k e) (given (piece end k e))
    (refused 1 k))

unfoldable pub mark_at : List ℕ → ℕ → Answer Piece
mark_at s k = with (run_end s k) (mark_of s k)

-- the token that starts at k, by its first byte
unfoldable pub token_at : List ℕ → ℕ → Answer Piece
token_at s k =
    cond (leb (length s) k) (given (finish (length s)))
    (cond (eqb (byte s k) 34) (string_at s k)
    (cond (starts_name (byte s k)) (name_at s k)
    (cond (starts_number (byte s k)) (number_at s k)
    (mark_at s k))))

-- "The reader's place moves forward with each token": past blanks and comments, then the token there
unfoldable pub next_token : List ℕ → ℕ → Answer Piece
next_token s k = with (blank_at s k) (token_at s)
