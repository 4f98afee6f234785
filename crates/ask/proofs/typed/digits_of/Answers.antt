-- `digits_of` meets its contract.
use Rattle.ask.proofs.Typings.{digit-runs}
use Rattle.ask.proofs.typed.digits_of.Goals.{in_default-via-then-s-lt2, in_default-via-else-s-lt2+in_default-1}
use Rattle.ask.proofs.typed.digits_of.Goals as goal

pub returns-in-120 : goal.returns-in-120
returns-in-120 c = search digit-runs

pub returns-in_default : goal.returns-in_default
returns-in_default c = elim c.in_default.branch [ in_default-via-then-s-lt2 w ↦ search digit-runs | in_default-via-else-s-lt2+in_default-1 w ↦ search digit-runs ]
