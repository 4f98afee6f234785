use Rattle.decimals.proofs.TenLaws.{raises}
use Rattle.decimals.proofs.tens.raised.Goals as goal

pub loop-init : goal.loop-init
loop-init c = search raises

pub returns-then-n-gt-MOST_NINE : goal.returns-then-n-gt-MOST_NINE
returns-then-n-gt-MOST_NINE c = search raises

pub loop-preserved : goal.loop-preserved
loop-preserved c = search raises

pub returns : goal.returns
returns c = search raises
