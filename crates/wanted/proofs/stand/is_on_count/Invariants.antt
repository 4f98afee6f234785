use Rattle.wanted.proofs.StandLaws.{Clear}
use Prim.Native.Nat.{◌+◌}
use Rattle.wanted.proofs.stand.is_on_count.Given as goal

abbrev pub invariant-loop-g : goal.invariant-loop-g
invariant-loop-g l = Clear l.t l.lo (l.lo + l.many) l.g
