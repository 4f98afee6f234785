-- `means_within` meets its contract.
use Rattle.asked.proofs.WithinLaws.{withins}
use Rattle.asked.proofs.means_within.Goals as goal

pub returns-then-p-eq-NUMBER : goal.returns-then-p-eq-NUMBER
returns-then-p-eq-NUMBER c = search withins

pub returns : goal.returns
returns c = search withins
