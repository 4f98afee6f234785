use Rattle.tables.proofs.PartLaws.{records}
use Rattle.rule.proofs.rule.is_ruled.Goals as goal

pub returns : goal.returns
returns c = search records
