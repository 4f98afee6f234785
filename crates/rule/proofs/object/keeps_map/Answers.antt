use Rattle.tables.proofs.ObjectLaws.{parts}
use Rattle.rule.proofs.object.keeps_map.Goals as goal

pub returns : goal.returns
returns c = search parts
