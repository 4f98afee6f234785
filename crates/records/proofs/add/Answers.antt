-- `records::add` meets its contract. Assumes nothing.
use Rattle.records.proofs.OpLaws.{ops}
use Rattle.records.proofs.add.Goals as goal

pub returns-then-n-c : goal.returns-then-n-c
returns-then-n-c c = search ops

pub returns-else-n-c : goal.returns-else-n-c
returns-else-n-c c = search ops
