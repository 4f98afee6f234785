use Rattle.grammar.proofs.KeywordLaws.{plains}
use Rattle.engine.proofs.keyword.plain_row.Goals as goal

pub returns-then-row_cell-eq-OUTSIDE : goal.returns-then-row_cell-eq-OUTSIDE
returns-then-row_cell-eq-OUTSIDE c = search plains

pub returns-then-i-lt-ROW_COUNT : goal.returns-then-i-lt-ROW_COUNT
returns-then-i-lt-ROW_COUNT c = search plains

pub returns : goal.returns
returns c = search plains
