use Rattle.tables.proofs.PartLaws.{records}
use Rattle.rule.proofs.part.keeps_role.Goals as goal

pub returns-then-g-lt2 : goal.returns-then-g-lt2
returns-then-g-lt2 c = search records

pub returns : goal.returns
returns c = search records
