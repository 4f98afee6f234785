-- `records::slot` meets its contract. Assumes nothing.
use Rattle.records.proofs.OpLaws.{ops}
use Rattle.records.proofs.slot.Goals as goal

pub returns-then-i-c : goal.returns-then-i-c
returns-then-i-c c = search ops

pub returns : goal.returns
returns c = search ops
