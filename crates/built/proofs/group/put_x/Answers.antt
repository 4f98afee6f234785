use Rattle.build.proofs.GroupLaws.{x-parts}
use Rattle.built.proofs.group.put_x.Goals as goal

pub returns-then-axis : goal.returns-then-axis
returns-then-axis c = search x-parts

pub returns : goal.returns
returns c = search x-parts
