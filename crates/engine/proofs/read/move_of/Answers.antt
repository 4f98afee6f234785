use Rattle.std.proofs.Common.{rules}
use Rattle.grammar.specs.Read.{move}
use Rattle.engine.proofs.read.move_of.Goals as goal

pub returns-in-Name : goal.returns-in-Name
unfolding move
returns-in-Name c = search rules

pub returns-in-Text : goal.returns-in-Text
unfolding move
returns-in-Text c = search rules

pub returns-in-Number : goal.returns-in-Number
unfolding move
returns-in-Number c = search rules

pub returns-in-Begin : goal.returns-in-Begin
unfolding move
returns-in-Begin c = search rules

pub returns-in-End : goal.returns-in-End
unfolding move
returns-in-End c = search rules

pub returns-in-Finish : goal.returns-in-Finish
unfolding move
returns-in-Finish c = search rules

pub returns-in_err-start : goal.returns-in_err-start
unfolding move
returns-in_err-start c = search rules
