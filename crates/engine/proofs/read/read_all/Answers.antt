use Rattle.grammar.proofs.ReadLaws.{alls}
use Rattle.engine.proofs.read.read_all.Goals as goal

pub returns : goal.returns
returns c = search alls
