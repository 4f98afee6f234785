use Rattle.objects.proofs.StageLaws.{marks}
use Rattle.turns.proofs.mark.Goals as goal

pub returns-else-k-seen : goal.returns-else-k-seen
returns-else-k-seen c = search marks
