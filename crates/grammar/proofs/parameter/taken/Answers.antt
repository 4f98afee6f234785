use Rattle.grammar.proofs.ParameterLaws.{takes}
use Rattle.grammar.proofs.parameter.taken.Goals as goal

pub returns-then-k-eq-TEXT : goal.returns-then-k-eq-TEXT
returns-then-k-eq-TEXT c = search takes

pub returns-then-kind : goal.returns-then-kind
returns-then-kind c = search takes

pub returns-then-k-eq-NAME : goal.returns-then-k-eq-NAME
returns-then-k-eq-NAME c = search takes

pub returns-then-kind-2 : goal.returns-then-kind-2
returns-then-kind-2 c = search takes

pub returns-then-k-eq-NUMBER : goal.returns-then-k-eq-NUMBER
returns-then-k-eq-NUMBER c = search takes

pub returns : goal.returns
returns c = search takes
