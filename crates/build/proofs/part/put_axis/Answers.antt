use Rattle.build.proofs.PartLaws.{axes}
use Rattle.build.proofs.part.put_axis.Goals as goal

pub returns : goal.returns
returns c = search axes
