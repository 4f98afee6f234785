-- `places::six::six_places` meets its contract. Assumes nothing.
use Rattle.places.proofs.Sixes.{sixes}
use Rattle.places.proofs.six.six_places.Goals as goal

pub returns-then-d : goal.returns-then-d
returns-then-d c = search sixes

pub returns : goal.returns
returns c = search sixes
