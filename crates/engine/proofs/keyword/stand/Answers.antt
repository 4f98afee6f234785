use Rattle.grammar.proofs.KeywordLaws.{standings}
use Rattle.engine.proofs.keyword.stand.Goals as goal

pub returns-then-is_often : goal.returns-then-is_often
returns-then-is_often c = search standings

pub returns-then-may_stand : goal.returns-then-may_stand
returns-then-may_stand c = search standings

pub returns : goal.returns
returns c = search standings
