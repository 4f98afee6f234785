use Rattle.refer.proofs.Laws.{reachings}
use Rattle.refer.proofs.refer_all.Goals as goal

pub loop-r-init : goal.loop-r-init
loop-r-init c = search reachings

pub loop-r-preserved : goal.loop-r-preserved
loop-r-preserved c = search reachings

pub returns : goal.returns
returns c = search reachings
