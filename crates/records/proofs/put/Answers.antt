-- `records::put` meets its contract. Assumes nothing.
use Rattle.records.proofs.OpLaws.{ops}
use Rattle.records.proofs.put.Goals as goal

pub returns-then-i-count : goal.returns-then-i-count
returns-then-i-count c = search ops

pub returns-else-i-count : goal.returns-else-i-count
returns-else-i-count c = search ops
