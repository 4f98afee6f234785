use Rattle.tables.proofs.TestLaws.{lent}
use Rattle.tables.proofs.sizes.sizes_fit.Goals as goal

pub returns-then-n-m : goal.returns-then-n-m
returns-then-n-m c = search lent

pub returns : goal.returns
returns c = search lent
