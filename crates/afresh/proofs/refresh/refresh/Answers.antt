use Rattle.afresh.proofs.RefreshLaws.{list-lines}
use Rattle.afresh.proofs.refresh.refresh.Goals as goal

pub loop-g-init : goal.loop-g-init
loop-g-init c = search list-lines

pub refresh_group-requires : goal.refresh_group-requires
refresh_group-requires c = search list-lines

pub overflow_add-k : goal.overflow_add-k
overflow_add-k c = search list-lines

pub loop-g-preserved : goal.loop-g-preserved
loop-g-preserved c = search list-lines

pub returns : goal.returns
returns c = search list-lines
