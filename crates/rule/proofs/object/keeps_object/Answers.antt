use Rattle.tables.proofs.PartLaws.{records}
use Rattle.rule.proofs.object.keeps_object.Goals as goal

pub returns : goal.returns
returns c = search records
