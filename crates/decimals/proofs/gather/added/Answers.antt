-- `added` meets its contract.
use Rattle.decimals.proofs.GatherLaws.{adds}
use Rattle.decimals.proofs.gather.added.Goals as goal

pub returns-then-p-le-MOST_NINE : goal.returns-then-p-le-MOST_NINE
returns-then-p-le-MOST_NINE c = search adds

pub returns-then-d-eq0 : goal.returns-then-d-eq0
returns-then-d-eq0 c = search adds

pub returns : goal.returns
returns c = search adds
