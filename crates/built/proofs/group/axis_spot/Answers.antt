use Rattle.build.proofs.GroupLaws.{axis-spots}
use Rattle.built.proofs.group.axis_spot.Goals as goal

pub returns : goal.returns
returns c = search axis-spots
