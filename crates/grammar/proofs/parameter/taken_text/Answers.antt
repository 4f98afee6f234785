use Rattle.grammar.proofs.ParameterLaws.{texts}
use Rattle.grammar.proofs.parameter.taken_text.Goals as goal

pub returns-then-param_cell-eq-TEXT : goal.returns-then-param_cell-eq-TEXT
returns-then-param_cell-eq-TEXT c = search texts

pub returns : goal.returns
returns c = search texts
