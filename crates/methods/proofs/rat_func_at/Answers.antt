use Rattle.methods.proofs.Laws.{kinds}
use Rattle.methods.proofs.rat_func_at.Goals as goal

pub decimal_slots-b-requires : goal.decimal_slots-b-requires
decimal_slots-b-requires c = search kinds

pub decimal_slots-c-requires : goal.decimal_slots-c-requires
decimal_slots-c-requires c = search kinds

pub decimal_slots-e-requires : goal.decimal_slots-e-requires
decimal_slots-e-requires c = search kinds

pub decimal_slots-f-requires : goal.decimal_slots-f-requires
decimal_slots-f-requires c = search kinds

pub rat_func-requires : goal.rat_func-requires
rat_func-requires c = search kinds

pub returns : goal.returns
returns c = search kinds
