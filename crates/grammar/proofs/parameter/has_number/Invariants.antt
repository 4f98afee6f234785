use Rattle.grammar.proofs.ParameterLaws.{Having}
use Rattle.grammar.specs.Move.{view_in}
use Rattle.grammar.proofs.parameter.has_number.Given as goal

abbrev pub invariant-loop-i : goal.invariant-loop-i
invariant-loop-i l = Having (view_in l.t) l.sign l.size l.i
