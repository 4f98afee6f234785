use Rattle.methods.proofs.Laws.{Converting}
use Rattle.grammar.specs.Move.{view_in}
use Rattle.methods.proofs.convert_all.Given as goal

abbrev pub invariant-loop-i : goal.invariant-loop-i
invariant-loop-i l = Converting (view_in l.t) l.i
