use Rattle.build.proofs.GroupLaws.{knowns}
use Rattle.built.proofs.group.known_of.Goals as goal

pub returns : goal.returns
returns c = search knowns
