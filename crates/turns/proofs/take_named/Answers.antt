use Rattle.objects.proofs.StageLaws.{nameds}
use Rattle.turns.proofs.take_named.Goals as goal

pub returns-then-is_naming : goal.returns-then-is_naming
returns-then-is_naming c = search nameds

pub returns : goal.returns
returns c = search nameds
