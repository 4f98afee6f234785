use Rattle.grammar.proofs.KeywordLaws.{openings}
use Rattle.engine.proofs.keyword.open.Goals as goal

pub returns-then-i-lt-ROW_COUNT : goal.returns-then-i-lt-ROW_COUNT
returns-then-i-lt-ROW_COUNT c = search openings

pub returns : goal.returns
returns c = search openings
