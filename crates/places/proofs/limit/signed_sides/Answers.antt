-- `places::limit::signed_sides` meets its contract. Assumes nothing.
use Rattle.places.proofs.Sides.{sides}
use Rattle.places.proofs.limit.signed_sides.Goals as goal

pub returns-then-a : goal.returns-then-a
returns-then-a c = search sides

pub returns-then-n-lt0 : goal.returns-then-n-lt0
returns-then-n-lt0 c = search sides

pub returns-then-a-2 : goal.returns-then-a-2
returns-then-a-2 c = search sides

pub returns : goal.returns
returns c = search sides
