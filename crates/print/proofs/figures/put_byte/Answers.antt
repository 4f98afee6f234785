-- `print::figures::put_byte` meets its contract. Assumes nothing.
use Rattle.print.proofs.PutLaws.{puts}
use Rattle.print.proofs.figures.put_byte.Goals as goal
use Rattle.print.proofs.figures.put_byte.Goals.{then-at-out, else-at-out}

pub returns : goal.returns
returns c = elim c.if-at-out.branch [ then-at-out w ↦ search puts | else-at-out w ↦ search puts ]
