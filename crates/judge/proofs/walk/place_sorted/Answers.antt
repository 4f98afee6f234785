-- `judge::walk::place_sorted` meets its contract. Assumes nothing.
use Rattle.place.proofs.Steps.{sortings}
use Rattle.judge.proofs.walk.place_sorted.Goals as goal

pub returns-in_err-s : goal.returns-in_err-s
returns-in_err-s c = search sortings

pub loop-p-preserved : goal.loop-p-preserved
loop-p-preserved c = search (c.in_ok-s.ensures, sortings)

pub returns : goal.returns
returns c = search sortings
