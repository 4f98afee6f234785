-- `places::six::places_of` meets its contract. Assumes nothing.
use Rattle.places.proofs.Sixes.{sixes}
use Rattle.places.proofs.six.places_of.Goals as goal

pub returns-then-q-d : goal.returns-then-q-d
returns-then-q-d c = search sixes

pub returns-then-m-eq-LAST : goal.returns-then-m-eq-LAST
returns-then-m-eq-LAST c = search sixes

pub returns : goal.returns
returns c = search sixes
