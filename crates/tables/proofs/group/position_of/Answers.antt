use Rattle.tables.proofs.GroupLaws.{positions}
use Rattle.tables.proofs.group.position_of.Goals as goal

pub returns-in-2 : goal.returns-in-2
returns-in-2 c = search positions

pub returns-in-1 : goal.returns-in-1
returns-in-1 c = search positions

pub returns-in_default : goal.returns-in_default
returns-in_default c = search positions
