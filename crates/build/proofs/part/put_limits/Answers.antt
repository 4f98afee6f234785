use Rattle.build.proofs.PartLaws.{limits}
use Rattle.build.proofs.part.put_limits.Goals as goal

pub returns : goal.returns
returns c = search limits
