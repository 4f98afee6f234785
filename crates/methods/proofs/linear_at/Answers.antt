use Rattle.methods.proofs.Laws.{kinds}
use Rattle.methods.proofs.linear_at.Goals as goal

pub decimal_slots-requires : goal.decimal_slots-requires
decimal_slots-requires c = search kinds

pub decimal_slots-requires-2 : goal.decimal_slots-requires-2
decimal_slots-requires-2 c = search kinds

pub linear-requires : goal.linear-requires
linear-requires c = search kinds

pub returns : goal.returns
returns c = search kinds
