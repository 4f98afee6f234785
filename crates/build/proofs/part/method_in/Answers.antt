use Rattle.build.proofs.PartLaws.{methods-in}
use Rattle.build.proofs.part.method_in.Goals as goal

pub returns : goal.returns
returns c = search methods-in
