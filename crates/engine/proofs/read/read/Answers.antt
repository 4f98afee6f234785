use Rattle.grammar.proofs.ReadLaws.{intos}
use Rattle.engine.proofs.read.read.Goals as goal

pub returns-then-t : goal.returns-then-t
returns-then-t c = search intos

pub returns-in-Err : goal.returns-in-Err
returns-in-Err c = search intos

pub returns : goal.returns
returns c = search intos
