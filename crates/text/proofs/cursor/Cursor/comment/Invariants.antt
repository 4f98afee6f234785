use Rattle.text.proofs.BlankLaws.{InComment}
use Rattle.text.proofs.cursor.Cursor.comment.Given as goal

abbrev pub invariant-loop-i : goal.invariant-loop-i
invariant-loop-i l = InComment l.s l.at l.i
