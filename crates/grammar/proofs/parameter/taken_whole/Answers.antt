use Rattle.grammar.proofs.ParameterLaws.{wholes}
use Rattle.grammar.proofs.parameter.taken_whole.Goals as goal

pub returns-then-n-limit_cell : goal.returns-then-n-limit_cell
returns-then-n-limit_cell c = search wholes

pub returns-then-kind-n : goal.returns-then-kind-n
returns-then-kind-n c = search wholes

pub returns-then-kind-is_alignment : goal.returns-then-kind-is_alignment
returns-then-kind-is_alignment c = search wholes

pub returns : goal.returns
returns c = search wholes
