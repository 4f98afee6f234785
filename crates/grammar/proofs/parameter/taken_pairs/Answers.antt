use Rattle.grammar.proofs.ParameterLaws.{pairings}
use Rattle.grammar.proofs.parameter.taken_pairs.Goals as goal

pub returns-then-n-eq0 : goal.returns-then-n-eq0
returns-then-n-eq0 c = search pairings

pub returns : goal.returns
returns c = search pairings
