-- `records::set` meets its contract. Assumes nothing.
use Rattle.records.proofs.OpLaws.{cells}
use Rattle.records.proofs.set.Goals as goal

pub returns-else-i-t : goal.returns-else-i-t
returns-else-i-t c = search cells
