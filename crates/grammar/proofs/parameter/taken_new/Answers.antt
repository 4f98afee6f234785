use Rattle.grammar.proofs.ParameterLaws.{news}
use Rattle.grammar.proofs.parameter.taken_new.Goals as goal

pub returns-then-is_some : goal.returns-then-is_some
returns-then-is_some c = search news

pub returns-then-c-count_of : goal.returns-then-c-count_of
returns-then-c-count_of c = search news

pub returns : goal.returns
returns c = search news
