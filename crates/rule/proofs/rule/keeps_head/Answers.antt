use Rattle.tables.proofs.PartLaws.{records}
use Rattle.rule.proofs.rule.keeps_head.Goals as goal

pub returns : goal.returns
returns c = search records
