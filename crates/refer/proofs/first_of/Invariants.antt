use Rattle.refer.proofs.Laws.{Lessening}
use Rattle.grammar.specs.Move.{view_in}
use Rattle.refer.proofs.first_of.Given as goal

abbrev pub invariant-loop-i : goal.invariant-loop-i
invariant-loop-i l = Lessening l.x (view_in l.t) l.r l.i l.first
