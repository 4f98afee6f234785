-- `class_of` meets its contract.
use Rattle.words.proofs.Tables.{between}
use Rattle.words.proofs.class.class_of.Goals as goal

pub returns : goal.returns
returns c = between c.args.s.now c.args.from c.args.to c.map_or.result c.get.result c.map_or.ensures c.get.ensures.lookup
