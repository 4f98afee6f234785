use Rattle.objects.proofs.StageLaws.{weights}
use Rattle.turns.proofs.weigh.Goals as goal

pub overflow_cast-result : goal.overflow_cast-result
overflow_cast-result c = search weights
