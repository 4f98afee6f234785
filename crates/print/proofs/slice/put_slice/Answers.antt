-- `print::slice::put_slice` meets its contract. Assumes nothing.
use Rattle.print.proofs.SliceLaws.{rests}
use Rattle.print.proofs.slice.put_slice.Goals as goal

pub returns-then-out-p : goal.returns-then-out-p
returns-then-out-p c = search rests

pub loop-k-preserved : goal.loop-k-preserved
loop-k-preserved c = search rests

pub returns : goal.returns
returns c = search rests
