-- What the loop of `print::slice::put_slice` keeps.
use Rattle.print.proofs.SliceLaws.{Rest}
use Rattle.print.proofs.slice.put_slice.Given as goal

abbrev pub invariant-loop-k : goal.invariant-loop-k
invariant-loop-k l = Rest l.x l.at l.a l.past l.initial.out l.p l.k l.out
