use Rattle.objects.proofs.StageLaws.{namings}
use Rattle.turns.proofs.is_naming.Goals as goal

pub returns : goal.returns
returns c = search namings
