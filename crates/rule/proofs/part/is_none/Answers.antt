use Rattle.tables.proofs.PartLaws.{records}
use Rattle.rule.proofs.part.is_none.Goals as goal

pub returns : goal.returns
returns c = search records
