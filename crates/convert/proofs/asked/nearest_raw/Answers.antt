-- `nearest_raw` meets its contract.
use Rattle.convert.proofs.AskedLaws.{askeds}
use Rattle.convert.proofs.asked.nearest_raw.Goals as goal

pub overflow_cast-pow : goal.overflow_cast-pow
overflow_cast-pow c = search askeds

pub raw_for-requires : goal.raw_for-requires
raw_for-requires c = search askeds

pub returns-then-all_small : goal.returns-then-all_small
returns-then-all_small c = search askeds

pub returns : goal.returns
returns c = search askeds
