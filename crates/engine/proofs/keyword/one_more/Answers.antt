use Rattle.grammar.proofs.KeywordLaws.{mores}
use Rattle.engine.proofs.keyword.one_more.Goals as goal

pub returns : goal.returns
returns c = search mores
