use Rattle.grammar.proofs.ParameterLaws.{decimal-takes}
use Rattle.grammar.proofs.parameter.taken_decimal.Goals as goal

pub returns-then-kind-eq-NUMBER : goal.returns-then-kind-eq-NUMBER
returns-then-kind-eq-NUMBER c = search decimal-takes

pub returns-then-kind-d : goal.returns-then-kind-d
returns-then-kind-d c = search decimal-takes

pub returns-then-kind-is_upper : goal.returns-then-kind-is_upper
returns-then-kind-is_upper c = search decimal-takes

pub returns : goal.returns
returns c = search decimal-takes
