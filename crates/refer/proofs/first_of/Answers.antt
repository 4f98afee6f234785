use Rattle.refer.proofs.Laws.{lessenings}
use Rattle.refer.proofs.first_of.Goals as goal

pub loop-i-preserved : goal.loop-i-preserved
loop-i-preserved c = search lessenings

pub returns : goal.returns
returns c = search lessenings
