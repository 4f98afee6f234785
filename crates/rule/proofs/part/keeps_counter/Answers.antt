use Rattle.tables.proofs.PartLaws.{records}
use Rattle.rule.proofs.part.keeps_counter.Goals as goal

pub returns : goal.returns
returns c = search records
