-- `judge::judge::are_inside` meets its contract. Assumes nothing.
use Rattle.place.proofs.Weights.{all-inside}
use Rattle.judge.proofs.judge.are_inside.Goals as goal

pub returns : goal.returns
returns c = all-inside _ _ _ _ _ _ _ _ _ _ _ c.bytes_of.ensures c.bytes_of-2.ensures c.bytes_of-3.ensures c.is_inside-a.ensures c.is_inside-b.ensures c.is_inside-c.ensures
