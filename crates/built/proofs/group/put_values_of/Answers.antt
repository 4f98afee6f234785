use Rattle.build.proofs.GroupLaws.{values-parts}
use Rattle.built.proofs.group.put_values_of.Goals as goal

pub returns-then-need : goal.returns-then-need
returns-then-need c = search values-parts

pub returns : goal.returns
returns c = search values-parts
