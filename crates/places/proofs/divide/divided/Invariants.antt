-- `divided` meets its contract. The loop keeps `Going`.
use Rattle.places.proofs.Divides.{Going}
use Rattle.places.proofs.divide.divided.Given as goal

abbrev pub invariant-loop : goal.invariant-loop
invariant-loop l = Going l.n l.t l.d l.whole l.rest l.counter
