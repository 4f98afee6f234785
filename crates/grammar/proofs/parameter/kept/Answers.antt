use Rattle.grammar.proofs.ParameterLaws.{keeps}
use Rattle.grammar.proofs.parameter.kept.Goals as goal

pub returns-then-slot-eq0 : goal.returns-then-slot-eq0
returns-then-slot-eq0 c = search keeps

pub returns : goal.returns
returns c = search keeps
