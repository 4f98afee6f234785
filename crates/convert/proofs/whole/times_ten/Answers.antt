-- `times_ten` meets its contract.
use Rattle.convert.proofs.WholeLaws.{wholes}
use Rattle.convert.proofs.whole.times_ten.Goals as goal

pub with_sign-requires : goal.with_sign-requires
with_sign-requires c = search wholes
