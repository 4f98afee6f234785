use Rattle.build.proofs.GroupLaws.{y-parts}
use Rattle.built.proofs.group.put_y.Goals as goal

pub returns-then-axis : goal.returns-then-axis
returns-then-axis c = search y-parts

pub returns : goal.returns
returns c = search y-parts
