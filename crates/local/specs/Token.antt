-- Where the token at a place ends (document 01, "Words and numbers"), whether or not it is well formed: `A-B`, `/foo` and a run with a byte 0x80 have an end too.
-- An unclosed string has none, and no token stands at a blank, at a comment and at the text's end.
use Rattle.std.specs.Prelude.{ℕ, ◌≤◌, ◌<◌, ◌≡◌, List, true, false, length}
use Rattle.text.specs.Answer.{given}
use Rattle.text.specs.Bytes.{byte}
use Rattle.text.specs.Blank.{token_ends}
use Rattle.text.specs.Token.{string_end}

-- the token whose first byte stands at p ends before e: "Strings stand in double quotes", and any other "goes to the next blank, comment or quote", or to the text's end
pub data TokenTo (x : List ℕ) (p e : ℕ) : Type 0 where
  string : byte x p ≡ 34 → p < length x → string_end x p ≡ given e → TokenTo x p e
  run : (byte x p ≡ 34 → ⊥) → p < e → ((j : ℕ) → p ≤ j → j < e → token_ends x j ≡ false) → token_ends x e ≡ true → TokenTo x p e
