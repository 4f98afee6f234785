-- `convert::round::rounded_of` meets its contract. Assumes nothing.
use Rattle.convert.proofs.RoundLaws.{rounds}
use Rattle.convert.proofs.round.rounded_of.Goals as goal

pub nonzero_div-q : goal.nonzero_div-q
nonzero_div-q c = search rounds

pub nonzero_rem-twice : goal.nonzero_rem-twice
nonzero_rem-twice c = search rounds

pub overflow_mul-twice : goal.overflow_mul-twice
overflow_mul-twice c = search rounds

pub goes_up-requires : goal.goes_up-requires
goes_up-requires c = search rounds

pub overflow_add-result : goal.overflow_add-result
overflow_add-result c = search rounds

pub returns-then-d-twice : goal.returns-then-d-twice
returns-then-d-twice c = search rounds

pub returns : goal.returns
returns c = search rounds
