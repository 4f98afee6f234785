use Rattle.refer.proofs.Laws.{Reaching}
use Rattle.grammar.specs.Move.{view_in}
use Rattle.refer.proofs.refer_all.Given as goal

abbrev pub invariant-loop-r : goal.invariant-loop-r
invariant-loop-r l = Reaching l.x (view_in l.t) l.r-index l.first
