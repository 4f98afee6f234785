-- What the inner function is given; no public promise speaks of it.
use Rattle.std.specs.Prelude.{ℕ, List}
use Rattle.words.specs.Row.{Row, row}
use Rattle.words.specs.Told.{told_class}
use Rattle.words.specs.declared.class.Class.{Class}

-- the row that a word of the code's tables and its class are
abbrev pub told_row : List ℕ × Class → Row
told_row r = row r.0 (told_class r.1)
