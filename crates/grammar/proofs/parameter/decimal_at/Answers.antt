use Rattle.grammar.proofs.ParameterLaws.{decimals}
use Rattle.grammar.proofs.parameter.decimal_at.Goals as goal

pub count_of-requires : goal.count_of-requires
count_of-requires c = search decimals

pub before-requires : goal.before-requires
before-requires c = search decimals

pub decimal_slots-requires : goal.decimal_slots-requires
decimal_slots-requires c = search decimals

pub returns : goal.returns
returns c = search decimals
