use Rattle.tables.proofs.PartLaws.{records}
use Rattle.rule.proofs.part.keeps_group.Goals as goal

pub returns-then-kind_of-eq0 : goal.returns-then-kind_of-eq0
returns-then-kind_of-eq0 c = search records

pub returns : goal.returns
returns c = search records
