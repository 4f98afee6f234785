-- `among` meets its contract. No row that the loop has passed has the word.
use Rattle.std.proofs.Common.{◌≡◌}
use Rattle.words.proofs.Tables.{kind_from}
use Rattle.words.proofs.class.among.Given as goal

abbrev pub invariant-loop-letters : goal.invariant-loop-letters
invariant-loop-letters g l = kind_from l.rows l.word l.letters-index ≡ kind_from l.rows l.word 0
