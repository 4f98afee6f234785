-- `place::rules::are_apart` meets its contract. Assumes nothing.
use Rattle.std.proofs.Common.{refl}
use Rattle.place.specs.Rules.{apart, both}
use Rattle.place.proofs.rules.are_apart.Goals as goal

pub returns : goal.returns
unfolding apart both
returns c = refl
