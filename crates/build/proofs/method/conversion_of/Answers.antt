use Rattle.build.proofs.MethodLaws.{conversions}
use Rattle.build.proofs.method.conversion_of.Goals as goal

pub returns-then-word : goal.returns-then-word
returns-then-word c = search conversions

pub returns-then-word-2 : goal.returns-then-word-2
returns-then-word-2 c = search conversions

pub returns : goal.returns
returns c = search conversions
