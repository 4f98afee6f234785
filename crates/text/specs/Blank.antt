-- Blanks and comments (document 01, "Words and numbers").
use Rattle.std.specs.Prelude.{ℕ, ◌+◌, List, Bool, cond, ◌||◌, length, eqb, leb}
use Prim.Native.Char.{code}
use Rattle.text.specs.Walk.{Step, on, done, over}
use Rattle.text.specs.Answer.{Answer, given, refused, on_to}
use Rattle.text.specs.Bytes.{byte, is_blank, pair_at}

-- "`//` to the end of the line": the first LF from a place on, or the text's end
abbrev pub line_step : List ℕ → ℕ → Step ℕ
line_step s k = cond (eqb (byte s k) 10) (done k) (on (k + 1))

unfoldable pub line_end : List ℕ → ℕ → ℕ
line_end s = over (length s) (line_step s) (λ k. k)

-- "`/* */` without nesting": the place past the first `*/`
abbrev pub close_step : List ℕ → ℕ → Step (Answer ℕ)
close_step s k = cond (pair_at s k (code "*") (code "/")) (done (given (k + 2))) (on (k + 1))

-- the comment whose `/*` stands at k; unclosed it is refusal 1 at its first byte
unfoldable pub comment_end : List ℕ → ℕ → Answer ℕ
comment_end s k = over (length s) (close_step s) (λ j. refused 1 k) (k + 2)

-- past every blank and comment from a place on
abbrev pub blank_step : List ℕ → ℕ → Step (Answer ℕ)
blank_step s k =
    cond (is_blank (byte s k)) (on (k + 1))
    (cond (pair_at s k (code "/") (code "/")) (on (line_end s (k + 2)))
    (cond (pair_at s k (code "/") (code "*")) (on_to (comment_end s k))
    (done (given k))))

unfoldable pub blank_at : List ℕ → ℕ → Answer ℕ
blank_at s = over (length s) (blank_step s) given

-- "the next blank, comment or quote", or the text's end, stands at a place
unfoldable pub token_ends : List ℕ → ℕ → Bool
token_ends s k =
    leb (length s) k || is_blank (byte s k) || eqb (byte s k) 34
    || pair_at s k (code "/") (code "/") || pair_at s k (code "/") (code "*")
