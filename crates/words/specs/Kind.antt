-- What document 01 does with a word: "Every other keyword or choice word is refused: 9 if document 000 lists it, else 4."
use Rattle.std.specs.Prelude.{ℕ}

-- with its code, what is taken ("What the reader takes") or "Skipped whole"; then what only document 000 lists, and what it does not list
pub data Kind : Type 0 where
  taken_block : ℕ → Kind
  taken_plain : ℕ → Kind
  taken_choice : ℕ → Kind
  skipped_block : ℕ → Kind
  skipped_plain : ℕ → Kind
  listed_only : Kind
  unlisted : Kind

-- the code of a keyword, and of a choice; 0 where there is none
unfoldable pub keyword_code : Kind → ℕ
keyword_code (taken_block c) = c
keyword_code (taken_plain c) = c
keyword_code (taken_choice c) = 0
keyword_code (skipped_block c) = c
keyword_code (skipped_plain c) = c
keyword_code listed_only = 0
keyword_code unlisted = 0

unfoldable pub choice_code : Kind → ℕ
choice_code (taken_block c) = 0
choice_code (taken_plain c) = 0
choice_code (taken_choice c) = c
choice_code (skipped_block c) = 0
choice_code (skipped_plain c) = 0
choice_code listed_only = 0
choice_code unlisted = 0
