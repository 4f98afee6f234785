-- `lines::field::place_from` meets its contract. Assumes nothing.
use Rattle.lines.proofs.Fields.{places}
use Rattle.lines.proofs.field.place_from.Goals as goal

pub returns-then-s-i : goal.returns-then-s-i
returns-then-s-i c = search places

pub loop-i-preserved : goal.loop-i-preserved
loop-i-preserved c = search places

pub returns : goal.returns
returns c = search places
