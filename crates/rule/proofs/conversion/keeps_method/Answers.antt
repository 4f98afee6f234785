use Rattle.tables.proofs.PartLaws.{records}
use Rattle.rule.proofs.conversion.keeps_method.Goals as goal

pub returns-then-slot_of-eq-TAB_VERB : goal.returns-then-slot_of-eq-TAB_VERB
returns-then-slot_of-eq-TAB_VERB c = search records

pub returns : goal.returns
returns c = search records
