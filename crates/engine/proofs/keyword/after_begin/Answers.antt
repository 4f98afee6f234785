use Rattle.grammar.proofs.KeywordLaws.{pieces}
use Rattle.engine.proofs.keyword.after_begin.Goals as goal

pub returns-then-k-eq-NAME : goal.returns-then-k-eq-NAME
returns-then-k-eq-NAME c = search pieces

pub returns : goal.returns
returns c = search pieces
