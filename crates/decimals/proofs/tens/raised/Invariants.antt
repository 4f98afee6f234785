-- `raised` meets its contract.
use Prim.Native.Nat.{◌-◌}
use Rattle.decimals.proofs.TenLaws.{Raising}
use Rattle.decimals.proofs.tens.raised.Given as goal

abbrev pub invariant-loop : goal.invariant-loop
invariant-loop l = Raising l.m l.p l.n (l.p - l.counter)
