use Rattle.grammar.proofs.KeywordLaws.{meetings}
use Rattle.engine.proofs.keyword.all_met.Goals as goal

pub returns-then-not-is_met : goal.returns-then-not-is_met
returns-then-not-is_met c = search meetings

pub loop-i-preserved : goal.loop-i-preserved
loop-i-preserved c = search meetings

pub returns : goal.returns
returns c = search meetings
