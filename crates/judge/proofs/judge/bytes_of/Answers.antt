-- `judge::judge::bytes_of` meets its contract. Assumes nothing.
use Rattle.place.proofs.Weights.{sums}
use Rattle.judge.proofs.judge.bytes_of.Goals as goal

pub overflow_mul-result : goal.overflow_mul-result
overflow_mul-result c = search sums

pub returns : goal.returns
returns c = search sums
