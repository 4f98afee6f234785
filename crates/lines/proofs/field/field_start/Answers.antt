-- `lines::field::field_start` meets its contract. Assumes nothing.
use Rattle.lines.proofs.Fields.{starts}
use Rattle.lines.proofs.field.field_start.Goals as goal

pub loop-init : goal.loop-init
loop-init c = search starts

pub returns-then-s-tab : goal.returns-then-s-tab
returns-then-s-tab c = search starts

pub loop-preserved : goal.loop-preserved
loop-preserved c = search starts

pub returns : goal.returns
returns c = search starts
