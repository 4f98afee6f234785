-- `convert::method::all_small` meets its contract. Assumes nothing.
use Rattle.convert.proofs.MethodLaws.{coefficients}
use Rattle.convert.proofs.method.all_small.Goals as goal

pub size-requires : goal.size-requires
size-requires c = search coefficients

pub size-requires-2 : goal.size-requires-2
size-requires-2 c = search coefficients

pub size-requires-3 : goal.size-requires-3
size-requires-3 c = search coefficients

pub size-requires-4 : goal.size-requires-4
size-requires-4 c = search coefficients

pub returns : goal.returns
returns c = search coefficients
