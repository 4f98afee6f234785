-- `judge::walk::started` meets its contract. Assumes nothing.
use Rattle.place.proofs.Steps.{started}
use Rattle.judge.proofs.walk.started.Goals as goal

pub returns : goal.returns
returns c = search started
