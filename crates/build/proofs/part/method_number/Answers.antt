use Rattle.build.proofs.PartLaws.{method-numbers}
use Rattle.build.proofs.part.method_number.Goals as goal

pub returns-then-same_part : goal.returns-then-same_part
returns-then-same_part c = search method-numbers

pub returns : goal.returns
returns c = search method-numbers
