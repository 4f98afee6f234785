use Rattle.listing.specs.Print.{physical}
use Rattle.listing.proofs.LineLaws.{values}
use Rattle.listing.proofs.line.put_physical.Goals as goal

pub returns-in-1 : goal.returns-in-1
returns-in-1 c = search values

pub returns-in-2 : goal.returns-in-2
unfolding physical
returns-in-2 c = search values

pub returns-in_default : goal.returns-in_default
returns-in_default c = search values
