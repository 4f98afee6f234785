-- `raw_for` meets its contract.
use Rattle.convert.proofs.AskedLaws.{askeds}
use Rattle.convert.proofs.asked.raw_for.Goals as goal

pub overflow_add-n : goal.overflow_add-n
overflow_add-n c = search askeds

pub overflow_mul-d : goal.overflow_mul-d
overflow_mul-d c = search askeds

pub overflow_mul-d-2 : goal.overflow_mul-d-2
overflow_mul-d-2 c = search askeds

pub overflow_add-d : goal.overflow_add-d
overflow_add-d c = search askeds

pub returns-then-d-eq0 : goal.returns-then-d-eq0
returns-then-d-eq0 c = search askeds

pub nearest_of-requires : goal.nearest_of-requires
nearest_of-requires c = search askeds

pub returns : goal.returns
returns c = search askeds
