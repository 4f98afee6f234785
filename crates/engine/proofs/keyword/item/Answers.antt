use Rattle.grammar.proofs.KeywordLaws.{pieces}
use Rattle.engine.proofs.keyword.item.Goals as goal

pub returns-then-k-eq-NAME : goal.returns-then-k-eq-NAME
returns-then-k-eq-NAME c = search pieces

pub returns-then-k-eq-BEGIN : goal.returns-then-k-eq-BEGIN
returns-then-k-eq-BEGIN c = search pieces

pub returns-then-k-eq-END : goal.returns-then-k-eq-END
returns-then-k-eq-END c = search pieces

pub returns : goal.returns
returns c = search pieces
