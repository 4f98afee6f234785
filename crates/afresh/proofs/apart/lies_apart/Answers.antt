-- `afresh::apart::lies_apart` meets its contract. Assumes nothing.
use Rattle.afresh.proofs.ApartLaws.{aparts}
use Rattle.afresh.proofs.apart.lies_apart.Goals as goal

pub returns : goal.returns
returns c = search aparts
