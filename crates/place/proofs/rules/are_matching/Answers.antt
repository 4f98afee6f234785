-- `place::rules::are_matching` meets its contract. Assumes nothing.
use Rattle.place.proofs.Orders.{joined}
use Rattle.place.proofs.rules.are_matching.Goals as goal

pub returns : goal.returns
returns c = search joined
