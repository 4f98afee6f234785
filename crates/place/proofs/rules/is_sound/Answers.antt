-- `place::rules::is_sound` meets its contract. Assumes nothing.
use Rattle.place.proofs.Orders.{joined}
use Rattle.place.proofs.rules.is_sound.Goals as goal

pub returns : goal.returns
returns c = search joined
