-- What the loop of `place::order::put_first` keeps.
use Rattle.std.proofs.Common.{◌≡◌, ◌-◌}
use Rattle.place.specs.Order.{put_first}
use Rattle.place.proofs.Orders.{from}
use Rattle.place.proofs.order.put_first.Given as goal

abbrev pub invariant-loop-i : goal.invariant-loop-i
invariant-loop-i l = from (l.i - 1) l.s ≡ put_first l.fn.s
