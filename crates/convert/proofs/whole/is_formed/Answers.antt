-- `is_formed` meets its contract.
use mathlib.Core.Path.{refl}
use Rattle.convert.specs.Limit.{formed}
use Rattle.convert.proofs.whole.is_formed.Goals as goal

pub returns : goal.returns
unfolding formed
returns c = refl
