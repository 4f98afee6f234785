use Rattle.text.proofs.TokenLaws.{InRun}
use Rattle.text.proofs.cursor.Cursor.past_run.Given as goal

abbrev pub invariant-loop-i : goal.invariant-loop-i
invariant-loop-i l = InRun l.s l.at l.i
