use Rattle.build.proofs.GroupLaws.{walks}
use Rattle.built.proofs.group.values_walk.Goals as goal

pub returns-then-what-mode : goal.returns-then-what-mode
returns-then-what-mode c = search walks

pub returns : goal.returns
returns c = search walks
