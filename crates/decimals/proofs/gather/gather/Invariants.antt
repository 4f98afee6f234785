-- `gather` meets its contract.
use Prim.Native.Nat.{◌*◌, ◌^◌}
use Rattle.decimals.proofs.GatherLaws.{Gathering}
use Rattle.decimals.proofs.gather.gather.Given as goal

abbrev pub invariant-loop-i : goal.invariant-loop-i
invariant-loop-i l = Gathering l.s l.at (l.fn.before.m * 10 ^ l.fn.before.z) l.i l.part
