-- `convert::round::nearest_of` meets its contract. Assumes nothing.
use Rattle.convert.proofs.RoundLaws.{rounds}
use Rattle.convert.proofs.round.nearest_of.Goals as goal

pub size-requires : goal.size-requires
size-requires c = search rounds

pub size-requires-2 : goal.size-requires-2
size-requires-2 c = search rounds

pub rounded_of-m-requires : goal.rounded_of-m-requires
rounded_of-m-requires c = search rounds

pub with_sign-requires : goal.with_sign-requires
with_sign-requires c = search rounds

pub returns-then-n-lt0 : goal.returns-then-n-lt0
returns-then-n-lt0 c = search rounds

pub with_sign-requires-2 : goal.with_sign-requires-2
with_sign-requires-2 c = search rounds

pub returns : goal.returns
returns c = search rounds
