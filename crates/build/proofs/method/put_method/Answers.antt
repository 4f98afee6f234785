use Rattle.build.proofs.MethodLaws.{method-rows}
use Rattle.build.proofs.method.put_method.Goals as goal

pub returns-then-word-table : goal.returns-then-word-table
returns-then-word-table c = search method-rows

pub returns : goal.returns
returns c = search method-rows
