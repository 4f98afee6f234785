use Rattle.build.proofs.PartLaws.{values}
use Rattle.build.proofs.part.put_values.Goals as goal

pub returns : goal.returns
returns c = search values
