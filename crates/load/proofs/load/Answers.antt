use Rattle.load.proofs.LoadLaws.{loads}
use Rattle.load.proofs.load.Goals as goal

pub load_into-requires : goal.load_into-requires
load_into-requires c = search loads

pub returns-then-is_edition : goal.returns-then-is_edition
returns-then-is_edition c = search loads

pub returns-then-fits-work : goal.returns-then-fits-work
returns-then-fits-work c = search loads

pub returns : goal.returns
returns c = search loads
