-- `rat_func` meets its contract.
use Rattle.convert.proofs.MethodLaws.{rat-funcs}
use Rattle.convert.proofs.method.rat_func.Goals as goal

pub made_whole-requires : goal.made_whole-requires
made_whole-requires c = record { d_value = search rat-funcs; tens_le_t = (search rat-funcs, search rat-funcs) }

pub made_whole-requires-then-is_formed : goal.made_whole-requires-then-is_formed
made_whole-requires-then-is_formed c = record { d_value = search rat-funcs; tens_le_t = (search rat-funcs, search rat-funcs) }

pub made_whole-requires-then-is_formed-2 : goal.made_whole-requires-then-is_formed-2
made_whole-requires-then-is_formed-2 c = record { d_value = search rat-funcs; tens_le_t = (search rat-funcs, search rat-funcs) }

pub made_whole-requires-then-is_formed-3 : goal.made_whole-requires-then-is_formed-3
made_whole-requires-then-is_formed-3 c = record { d_value = search rat-funcs; tens_le_t = (search rat-funcs, search rat-funcs) }

pub returns-then-is_formed : goal.returns-then-is_formed
returns-then-is_formed c = search rat-funcs

pub returns : goal.returns
returns c = search rat-funcs
