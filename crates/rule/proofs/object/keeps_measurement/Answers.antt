use Rattle.tables.proofs.ObjectLaws.{parts}
use Rattle.rule.proofs.object.keeps_measurement.Goals as goal

pub returns : goal.returns
returns c = search parts
