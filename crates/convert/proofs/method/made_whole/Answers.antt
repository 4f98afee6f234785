-- `convert::method::made_whole` meets its contract. Assumes nothing.
use Rattle.convert.proofs.MethodLaws.{coefficients}
use Rattle.convert.proofs.method.made_whole.Goals as goal

pub overflow_sub-t : goal.overflow_sub-t
overflow_sub-t c = search coefficients

pub times_ten-requires : goal.times_ten-requires
times_ten-requires c = search coefficients

pub returns : goal.returns
returns c = search coefficients
