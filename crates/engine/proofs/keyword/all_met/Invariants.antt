use Rattle.grammar.proofs.KeywordLaws.{Meeting}
use Rattle.grammar.specs.Move.{view_in}
use Rattle.engine.proofs.keyword.all_met.Given as goal

abbrev pub invariant-loop-i : goal.invariant-loop-i
invariant-loop-i l = Meeting (view_in l.t) l.b l.i
