use Rattle.look.proofs.MeaningLaws.{meanings}
use Rattle.look.proofs.meaning.meaning_of.Goals as goal

pub returns : goal.returns
returns c = search meanings
