-- `e_place` meets its contract.
use Rattle.decimals.proofs.RunLaws.{Standing}
use Rattle.decimals.proofs.e_place.Given as goal

abbrev pub invariant-loop-i : goal.invariant-loop-i
invariant-loop-i l = Standing l.s l.i
