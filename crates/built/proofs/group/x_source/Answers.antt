use Rattle.build.proofs.GroupLaws.{sources}
use Rattle.built.proofs.group.x_source.Goals as goal

pub returns-then-slot_of : goal.returns-then-slot_of
returns-then-slot_of c = search sources

pub returns : goal.returns
returns c = search sources
