use Rattle.build.proofs.PartLaws.{forbiddens}
use Rattle.build.proofs.part.forbids_in.Goals as goal

pub returns : goal.returns
returns c = search forbiddens
