-- `places::limit::sizes` meets its contract. Assumes nothing.
use Rattle.places.proofs.Sides.{sides}
use Rattle.places.proofs.limit.sizes.Goals as goal

pub returns-then-n-d-ge-PAST_WHOLE : goal.returns-then-n-d-ge-PAST_WHOLE
returns-then-n-d-ge-PAST_WHOLE c = search sides

pub returns : goal.returns
returns c = search sides
