use Rattle.text.proofs.TokenLaws.{InName}
use Rattle.text.proofs.token.name_end.Given as goal

abbrev pub invariant-loop-i : goal.invariant-loop-i
invariant-loop-i l = InName l.s l.at l.i
