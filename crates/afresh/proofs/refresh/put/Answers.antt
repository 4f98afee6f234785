use Rattle.afresh.proofs.RefreshLaws.{puts}
use Rattle.afresh.proofs.refresh.put.Goals as goal

pub returns-else-k-column : goal.returns-else-k-column
returns-else-k-column g c = search puts
