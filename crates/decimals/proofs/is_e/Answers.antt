-- `is_e` meets its contract.
use mathlib.Core.Path.{refl}
use Rattle.number.specs.Decimal.{is_e}
use Rattle.decimals.proofs.is_e.Goals as goal

pub returns : goal.returns
unfolding is_e
returns c = refl
