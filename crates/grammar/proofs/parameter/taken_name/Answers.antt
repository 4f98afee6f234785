use Rattle.grammar.proofs.ParameterLaws.{name-takes}
use Rattle.grammar.proofs.parameter.taken_name.Goals as goal

pub returns-then-kind-eq-NEW : goal.returns-then-kind-eq-NEW
returns-then-kind-eq-NEW c = search name-takes

pub returns-then-kind-eq-CHOICE : goal.returns-then-kind-eq-CHOICE
returns-then-kind-eq-CHOICE c = search name-takes

pub returns : goal.returns
returns c = search name-takes
