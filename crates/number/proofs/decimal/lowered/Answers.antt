use Rattle.number.proofs.Forms.{lows}
use Rattle.number.proofs.decimal.lowered.Goals as goal

pub returns-then-m-ne0 : goal.returns-then-m-ne0
returns-then-m-ne0 c = search lows

pub loop-k-preserved : goal.loop-k-preserved
loop-k-preserved c = search lows

pub returns : goal.returns
returns c = search lows
