use Rattle.grammar.proofs.KeywordLaws.{rowings}
use Rattle.engine.proofs.keyword.row_of.Goals as goal

pub returns-then-is_row : goal.returns-then-is_row
returns-then-is_row c = search rowings

pub loop-i-preserved : goal.loop-i-preserved
loop-i-preserved c = search rowings

pub returns : goal.returns
returns c = search rowings
