-- `judge::walk::place_in_order` meets its contract. Assumes nothing.
use Rattle.place.proofs.OnePart.{only}
use Rattle.judge.proofs.walk.place_in_order.Goals as goal

pub returns-then-v : goal.returns-then-v
returns-then-v c = search only

pub returns : goal.returns
returns c = search only
