-- `wanted::stand::is_counted` meets its contract. Assumes nothing.
use Rattle.wanted.proofs.StandLaws.{counts}
use Rattle.wanted.proofs.stand.is_counted.Goals as goal

pub returns : goal.returns
returns c = search counts
