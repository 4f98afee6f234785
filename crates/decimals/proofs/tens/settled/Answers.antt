-- `settled` meets its contract.
use Rattle.decimals.proofs.TenLaws.{settles}
use Rattle.decimals.proofs.tens.settled.Goals as goal

pub raised-requires : goal.raised-requires
raised-requires c = search settles

pub lowered-requires : goal.lowered-requires
lowered-requires c = search settles

pub returns-then-t-p : goal.returns-then-t-p
returns-then-t-p c = search settles

pub overflow_sub-t : goal.overflow_sub-t
overflow_sub-t c = search settles

pub lowered-requires-2 : goal.lowered-requires-2
lowered-requires-2 c = search settles

pub returns : goal.returns
returns c = search settles
