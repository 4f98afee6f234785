-- The bytes after a token, at two texts, computed: `A` is no word that document 000 lists; with `/x` after it, it is no name either.
use Prim.Native.Nat.{ℕ, ◌+◌}
use mathlib.Core.Path.{◌≡◌, refl, sym, ◌∙◌}
use mathlib.Core.List.{List}
use native.Mathlib.Omega.{arith}
use lib.ListN.{take}
use Rattle.text.specs.Answer.{refused}
use Rattle.text.specs.Walk.{walk, over}
use Rattle.text.specs.Bytes.{spelt, is_blank, is_allowed, is_letter, is_digit, starts_name, in_name, starts_number, pair_at}
use Rattle.text.specs.Blank.{line_end, comment_end, blank_at, token_ends}
use Rattle.text.specs.Token.{name_end, name_at, token_at, next_token}
use Rattle.words.specs.Row.{word, bytes, same, kind_in}
use Rattle.words.specs.Table.{word_rows}
use Rattle.words.specs.Class.{class_of, class_at}
use Rattle.grammar.specs.Keyword.{item}
use Rattle.grammar.specs.Read.{on_piece, move, read_from, start, read}
use Rattle.local.specs.Token.{TokenTo, run}

abbrev named : List ℕ
named = spelt "A/**/"

abbrev joined : List ℕ
joined = spelt "A/x"

named-refused : read named ≡ refused 4 0
unfolding walk over is_blank is_allowed is_letter is_digit starts_name in_name starts_number pair_at line_end comment_end blank_at token_ends name_end name_at token_at next_token word bytes same kind_in word_rows class_of class_at item on_piece move read_from start read
named-refused = refl

joined-refused : read joined ≡ refused 1 0
unfolding walk over is_blank is_allowed is_letter is_digit starts_name in_name starts_number pair_at line_end comment_end blank_at token_ends name_end name_at token_at next_token word bytes same kind_in word_rows class_of class_at item on_piece move read_from start read
joined-refused = refl

-- the token `A`
named-token : TokenTo named 0 1
unfolding token_ends is_blank pair_at
named-token = run (λ q. omega arith) (omega arith) (λ j h l. let z : j ≡ 0 = omega arith in rw z) refl

-- one byte past the token's end is too few
pub two-needed : ((x y : List ℕ) (n p e : ℕ) → TokenTo x p e → take (e + 1) x ≡ take (e + 1) y → read x ≡ refused n p → read y ≡ refused n p) → ⊥
two-needed h = let q = sym joined-refused ∙ h named joined 4 0 1 named-token refl named-refused in let z : ◌≡◌ {A = ℕ} 1 4 = cc in omega arith
