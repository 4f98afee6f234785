-- `judge::walk::points_of` meets its contract. Assumes nothing.
use Rattle.place.proofs.Counts.{axes}
use Rattle.judge.proofs.walk.points_of.Goals as goal

pub returns-then-a : goal.returns-then-a
returns-then-a c = search axes

pub returns : goal.returns
returns c = search axes
