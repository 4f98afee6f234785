-- `print::figures::put_signed` meets its contract. Assumes nothing.
use Rattle.print.proofs.PutLaws.{signs}
use Rattle.print.proofs.figures.put_signed.Goals as goal

pub returns-then-z-lt0 : goal.returns-then-z-lt0
returns-then-z-lt0 c = search signs

pub returns : goal.returns
returns c = search signs
