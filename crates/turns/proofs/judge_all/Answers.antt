use Rattle.objects.proofs.StageLaws.{alls}
use Rattle.turns.proofs.judge_all.Goals as goal

pub returns : goal.returns
returns c = search alls
