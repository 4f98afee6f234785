use Rattle.look.proofs.MeaningLaws.{meanings}
use Rattle.look.proofs.meaning.means.Goals as goal

pub returns : goal.returns
returns c = search meanings
