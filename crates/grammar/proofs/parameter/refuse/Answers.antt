use Rattle.grammar.proofs.ParameterLaws.{wrongs}
use Rattle.grammar.proofs.parameter.refuse.Goals as goal

pub returns-then-has_form : goal.returns-then-has_form
returns-then-has_form c = search wrongs

pub returns-then-k-eq-NUMBER : goal.returns-then-k-eq-NUMBER
returns-then-k-eq-NUMBER c = search wrongs

pub returns : goal.returns
returns c = search wrongs
