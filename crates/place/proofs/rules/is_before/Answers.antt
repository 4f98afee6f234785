-- `place::rules::is_before` meets its contract. Assumes nothing.
use Rattle.std.proofs.Common.{refl}
use Rattle.place.specs.Rules.{comes_before, both}
use Rattle.place.proofs.rules.is_before.Goals as goal

pub returns : goal.returns
unfolding comes_before both
returns c = refl
