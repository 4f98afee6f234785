use Rattle.build.proofs.GroupLaws.{groupings}
use Rattle.built.proofs.group.put_groups.Goals as goal

pub loop-i-init : goal.loop-i-init
loop-i-init c = search groupings

pub loop-i-preserved : goal.loop-i-preserved
loop-i-preserved c = search groupings
