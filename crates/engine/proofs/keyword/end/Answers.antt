use Rattle.grammar.proofs.KeywordLaws.{endings}
use Rattle.engine.proofs.keyword.end.Goals as goal

pub returns-then-block-eq-FILE : goal.returns-then-block-eq-FILE
returns-then-block-eq-FILE c = search endings

pub returns-then-all_met : goal.returns-then-all_met
returns-then-all_met c = search endings

pub returns : goal.returns
returns c = search endings
