use Rattle.text.proofs.BlankLaws.{lines}
use Rattle.text.proofs.blank.line_end.Goals as goal

pub loop-i-init : goal.loop-i-init
loop-i-init c = search lines

pub returns-then-s-i-eq10 : goal.returns-then-s-i-eq10
returns-then-s-i-eq10 c = search lines

pub loop-i-preserved : goal.loop-i-preserved
loop-i-preserved c = search lines

pub returns : goal.returns
returns c = search lines
