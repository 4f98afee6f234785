use Rattle.look.proofs.MeaningLaws.{meanings}
use Rattle.look.proofs.meaning.means_by.Goals as goal

pub returns-then-m : goal.returns-then-m
returns-then-m c = search meanings

pub returns : goal.returns
returns c = search meanings
