-- `place::rules::all_apart` meets its contract. Assumes nothing.
use Rattle.place.proofs.Orders.{ten}
use Rattle.place.proofs.rules.all_apart.Goals as goal

pub returns : goal.returns
returns c = ten _ _ _ _ _ _ _ _ _ _ _ c.are_apart.ensures c.are_apart-2.ensures c.are_apart-3.ensures c.are_apart-4.ensures c.are_apart-5.ensures c.are_apart-6.ensures c.are_apart-7.ensures c.are_apart-8.ensures c.are_apart-9.ensures c.are_apart-d.ensures
