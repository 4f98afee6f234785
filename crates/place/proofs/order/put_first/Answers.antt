-- `place::order::put_first` meets its contract. Assumes nothing.
use Rattle.std.proofs.Common.{arith}
use Rattle.place.proofs.Orders.{orders, last}
use Rattle.place.proofs.order.put_first.Goals as goal

pub returns-then-s-i : goal.returns-then-s-i
returns-then-s-i c = search orders

pub loop-i-preserved : goal.loop-i-preserved
loop-i-preserved c = search orders

pub returns : goal.returns
returns c = last _ _ _ c.loop-i.invariant c.loop-i.auto.i (omega (arith, c.loop-i.auto.s, c.loop-i-test.false))
