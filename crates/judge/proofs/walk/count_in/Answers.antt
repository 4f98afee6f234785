-- `judge::walk::count_in` meets its contract. Assumes nothing.
use Rattle.place.proofs.Counts.{counts}
use Rattle.judge.proofs.walk.count_in.Goals as goal

pub returns-then-raw-lt1 : goal.returns-then-raw-lt1
returns-then-raw-lt1 c = search counts

pub returns-then-most-n : goal.returns-then-most-n
returns-then-most-n c = search counts

pub returns : goal.returns
returns c = search counts
