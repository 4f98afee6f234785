use Rattle.tables.proofs.PartLaws.{records}
use Rattle.rule.proofs.conversion.keeps_entry.Goals as goal

pub returns : goal.returns
returns c = search records
