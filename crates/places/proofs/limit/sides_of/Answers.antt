-- `places::limit::sides_of` meets its contract. Assumes nothing.
use Rattle.places.proofs.Sides.{sides}
use Rattle.places.proofs.limit.sides_of.Goals as goal

pub signed_sides-requires : goal.signed_sides-requires
signed_sides-requires c = search sides

pub returns-then-d-is_formed : goal.returns-then-d-is_formed
returns-then-d-is_formed c = search sides

pub returns : goal.returns
returns c = search sides
