-- `convert::limit::at_most` meets its contract. Assumes nothing.
use Rattle.convert.proofs.LimitLaws.{limits}
use Rattle.convert.proofs.limit.at_most.Goals as goal

pub is_formed-requires : goal.is_formed-requires
is_formed-requires c = search limits

pub is_formed-requires-2 : goal.is_formed-requires-2
is_formed-requires-2 c = search limits

pub times_ten-requires : goal.times_ten-requires
times_ten-requires c = search limits

pub times_ten-requires-then-is_formed : goal.times_ten-requires-then-is_formed
times_ten-requires-then-is_formed c = search limits

pub returns-then-is_formed : goal.returns-then-is_formed
returns-then-is_formed c = search limits

pub returns : goal.returns
returns c = search limits
