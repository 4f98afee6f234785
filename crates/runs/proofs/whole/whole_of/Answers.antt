-- `whole_of` meets its contract.
use Rattle.number.proofs.Wholes.{wholes-of}
use Rattle.runs.proofs.whole.whole_of.Goals.{in_default-via-then-s-lt2, in_default-via-else-s-lt2+in-48+in_default-1, in_default-via-else-s-lt2+in_default-1}
use Rattle.runs.proofs.whole.whole_of.Goals as goal

pub returns-then-digits-gt-MOST_HEX : goal.returns-then-digits-gt-MOST_HEX
returns-then-digits-gt-MOST_HEX c = search wholes-of

pub returns-else-digits-gt-MOST_HEX : goal.returns-else-digits-gt-MOST_HEX
returns-else-digits-gt-MOST_HEX c = search wholes-of

pub returns-in_default : goal.returns-in_default
returns-in_default c = elim c.in_default.branch [ in_default-via-then-s-lt2 w ↦ search wholes-of | in_default-via-else-s-lt2+in-48+in_default-1 w ↦ search wholes-of | in_default-via-else-s-lt2+in_default-1 w ↦ search wholes-of ]
