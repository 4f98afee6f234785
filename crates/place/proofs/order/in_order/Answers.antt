-- `place::order::in_order` meets its contract. Assumes nothing.
use Rattle.place.proofs.Orders.{ordered}
use Rattle.place.proofs.order.in_order.Goals as goal

pub returns : goal.returns
returns c = ordered _ _ _ _ _ c.put_first.auto.s c.put_first.ensures c.put_first-2.auto.s c.put_first-2.ensures c.put_first-3.ensures c.put_first-4.ensures
