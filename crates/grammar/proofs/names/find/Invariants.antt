use Rattle.text.proofs.LikeLaws.{Comparing}
use Rattle.grammar.proofs.NameLaws.{Seeking}
use Prim.Native.Nat.{◌-◌}
use Rattle.grammar.proofs.names.find.Given as goal

abbrev pub invariant-loop-k : goal.invariant-loop-k
invariant-loop-k l = Comparing l.x l.from l.to l.x l.a l.e l.n l.k

abbrev pub decreases-loop-k : goal.decreases-loop-k
decreases-loop-k l = l.k

abbrev pub invariant-records : goal.invariant-records
invariant-records l = Seeking l.x l.t l.j l.a l.e l.c l.i l.at

abbrev pub decreases-records : goal.decreases-records
decreases-records l = l.count - l.i
