use Rattle.build.proofs.PartLaws.{meanings}
use Rattle.build.proofs.part.put_meaning.Goals as goal

pub returns : goal.returns
returns c = search meanings
