-- The class of a word, and of the bytes between two places.
use Rattle.std.specs.Prelude.{ℕ, ◌-◌, List, cond, ◌&&◌, leb, length, take, drop}
use Rattle.words.specs.Kind.{Kind, unlisted}
use Rattle.words.specs.Row.{kind_in}
use Rattle.words.specs.Table.{word_rows}

unfoldable pub class_of : List ℕ → Kind
class_of w = kind_in word_rows w

-- the bytes from the first place to the one before the second; where the places leave the bytes there is no word
unfoldable pub class_at : List ℕ → ℕ → ℕ → Kind
class_at s from to = cond (leb from to && leb to (length s)) (class_of (take (to - from) (drop from s))) unlisted
