use Rattle.wanted.proofs.StandLaws.{counts}
use Rattle.wanted.proofs.stand.is_on_count.Goals as goal

pub loop-g-init : goal.loop-g-init
loop-g-init c = search counts

pub returns-then-is_counted : goal.returns-then-is_counted
returns-then-is_counted c = search counts

pub loop-g-preserved : goal.loop-g-preserved
loop-g-preserved c = search counts

pub returns : goal.returns
returns c = search counts
