use Rattle.build.proofs.RowLaws.{Putting}
use Rattle.build.proofs.row.put_numbers.Given as goal

abbrev pub invariant-loop-n : goal.invariant-loop-n
invariant-loop-n l = Putting l.initial.u l.j l.i l.k l.numbers l.n l.u
