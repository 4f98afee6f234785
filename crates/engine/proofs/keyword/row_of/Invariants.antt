use Rattle.grammar.proofs.KeywordLaws.{Rowing}
use Rattle.engine.proofs.keyword.row_of.Given as goal

abbrev pub invariant-loop-i : goal.invariant-loop-i
invariant-loop-i l = Rowing l.b l.w l.i
