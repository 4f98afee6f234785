-- `judge::walk::start_of` meets its contract. Assumes nothing.
use Rattle.place.proofs.Counts.{starts}
use Rattle.judge.proofs.walk.start_of.Goals as goal

pub returns-then-s : goal.returns-then-s
returns-then-s c = search starts

pub returns : goal.returns
returns c = search starts
