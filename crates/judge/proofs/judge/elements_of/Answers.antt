-- `judge::judge::elements_of` meets its contract. Assumes nothing.
use Rattle.place.proofs.Weights.{sums}
use Rattle.judge.proofs.judge.elements_of.Goals as goal

pub returns : goal.returns
returns c = search sums
