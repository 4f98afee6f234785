-- `linear` meets its contract.
use Rattle.convert.proofs.MethodLaws.{linears}
use Rattle.convert.proofs.method.linear.Goals as goal

pub pow-requires : goal.pow-requires
pow-requires c = search linears

pub overflow_cast-pow : goal.overflow_cast-pow
overflow_cast-pow c = search linears

pub made_whole-requires : goal.made_whole-requires
made_whole-requires c = search linears

pub overflow_sub-made_whole : goal.overflow_sub-made_whole
overflow_sub-made_whole c = search linears

pub made_whole-requires-then-is_formed : goal.made_whole-requires-then-is_formed
made_whole-requires-then-is_formed c = search linears

pub returns-then-is_formed : goal.returns-then-is_formed
returns-then-is_formed c = search linears

pub returns : goal.returns
returns c = search linears
