use Rattle.tables.proofs.ObjectLaws.{parts}
use Rattle.rule.proofs.object.keeps_parts.Goals as goal

pub returns-in-7 : goal.returns-in-7
returns-in-7 c = search parts

pub returns-in-10 : goal.returns-in-10
returns-in-10 c = search parts

pub returns-in-15 : goal.returns-in-15
returns-in-15 c = search parts

pub returns-in-16 : goal.returns-in-16
returns-in-16 c = search parts

pub returns-in-17 : goal.returns-in-17
returns-in-17 c = search parts

pub returns-in-18 : goal.returns-in-18
returns-in-18 c = search parts

pub returns-in_default : goal.returns-in_default
returns-in_default c = search parts
