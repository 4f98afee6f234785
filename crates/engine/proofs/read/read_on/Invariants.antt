use Rattle.grammar.proofs.ReadLaws.{Reading}
use Rattle.engine.proofs.read.read_on.Given as goal

abbrev pub invariant-loop-i : goal.invariant-loop-i
invariant-loop-i l = Reading l.x l.initial.t l.initial.s l.t l.s l.at l.i
