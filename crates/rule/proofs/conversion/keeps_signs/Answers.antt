use Rattle.tables.proofs.PartLaws.{records}
use Rattle.rule.proofs.conversion.keeps_signs.Goals as goal

pub returns : goal.returns
returns c = search records
