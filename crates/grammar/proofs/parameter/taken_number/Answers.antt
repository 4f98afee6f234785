use Rattle.grammar.proofs.ParameterLaws.{number-takes}
use Rattle.grammar.proofs.parameter.taken_number.Goals as goal

pub returns-then-kind-eq-PAIRS : goal.returns-then-kind-eq-PAIRS
returns-then-kind-eq-PAIRS c = search number-takes

pub returns-then-kind : goal.returns-then-kind
returns-then-kind c = search number-takes

pub returns : goal.returns
returns c = search number-takes
