use Rattle.refer.proofs.Laws.{frees}
use Rattle.refer.proofs.is_free.Goals as goal

pub returns : goal.returns
returns c = search frees
