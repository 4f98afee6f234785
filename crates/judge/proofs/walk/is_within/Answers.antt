-- `judge::walk::is_within` meets its contract. Assumes nothing.
use Rattle.place.proofs.Counts.{axes}
use Rattle.judge.proofs.walk.is_within.Goals as goal

pub returns : goal.returns
returns c = search axes
